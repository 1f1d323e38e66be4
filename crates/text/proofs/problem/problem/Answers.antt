-- One text is put behind the other.
use Rattle.text.proofs.Laws.{worded, said_said}
use Rattle.text.proofs.problem.problem.Goals as goal

pub returns : goal.returns
returns c = worded (said_said (said_said (said_said (said_said c.words-a.ensures c.words-b.ensures) c.decimal-c.ensures) c.words-d.ensures) c.words.ensures)
