-- One text is put behind the other.
use Rattle.text.proofs.Laws.{worded, said_said}
use Rattle.text.proofs.fault.line_name.Goals as goal

pub returns : goal.returns
returns c = worded (said_said (said_said (said_said c.words-a.ensures c.put-b.ensures) c.decimal-c.ensures) c.words.ensures)
