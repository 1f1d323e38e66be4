-- What was put and what is left make the item.
use Rattle.text.proofs.Laws.{Picking}
use Rattle.text.proofs.item.item.Given as goal

abbrev pub invariant-loop-c : goal.invariant-loop-c
invariant-loop-c l = Picking l.fn.line l.at l.n l.list l.c-index l.bars l.line l.k
