use Rattle.std.proofs.Common.{arith}
use Rattle.text.specs.Text.{octet_shown}
use Rattle.text.proofs.Laws.{said_next}
use Rattle.text.proofs.octets_shown.Goals as goal

pub loop-b-preserved : goal.loop-b-preserved
loop-b-preserved c = said_next (octet_shown c.args.is_spaced) c.args.s.now c.loop-b.b-index (omega arith) c.loop-b.invariant c.octet_shown-k.ensures
