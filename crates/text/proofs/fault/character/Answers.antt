-- One text is put behind the other.
use Rattle.text.proofs.Laws.{worded, said_said}
use Rattle.text.proofs.fault.character.Goals as goal

pub returns : goal.returns
returns c = worded (said_said c.words-a.ensures c.octet.ensures)
