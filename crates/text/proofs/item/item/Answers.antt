use Rattle.std.proofs.Common.{arith}
use Rattle.text.proofs.Laws.{picking_bar, picking_other, picking_next, picking_end}
use Rattle.text.proofs.item.item.Goals as goal
use Rattle.text.proofs.item.item.Goals.{then-c-eq124, else-c-eq124+then-bars-n, else-c-eq124+else-bars-n}

pub loop-c-preserved : goal.loop-c-preserved
loop-c-preserved c = elim c.if-c-eq124.branch [
  | then-c-eq124 w ↦ rw (w.line-is, w.k-is, w.bars-is) (picking_bar c.args.list.now c.loop-c.c-index c.loop-c-test.true c.loop-c.invariant w.if-c-eq124.true)
  | else-c-eq124+then-bars-n w ↦ rw (w.line-is, w.k-is, w.bars-is) (picking_next c.args.list.now c.loop-c.c-index c.loop-c-test.true c.loop-c.invariant w.if-c-eq124.false w.if-bars-n.true w.put-k.ensures)
  | else-c-eq124+else-bars-n w ↦ rw (w.line-is, w.k-is, w.bars-is) (picking_other c.args.list.now c.loop-c.c-index c.loop-c-test.true c.loop-c.invariant w.if-c-eq124.false w.if-bars-n.false)
]

pub returns : goal.returns
returns c = picking_end c.args.list.now c.loop-c.c-index (omega arith) c.loop-c.invariant
