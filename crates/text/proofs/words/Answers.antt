use Rattle.text.proofs.Laws.{said_copied}
use Rattle.text.proofs.words.Goals as goal

pub returns : goal.returns
returns c = said_copied c.args.line.now c.args.s.now c.args.at _ _ _ c.min-start.ensures c.min-n.ensures c.copy_from_slice.ensures.after
