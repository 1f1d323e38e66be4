use Rattle.std.proofs.Common.{arith}
use Rattle.std.proofs.lemmas.Result.{err_from_is_err_and}
use Rattle.text.proofs.HexLaws.{reads_none, reads_next, reads_wrong, reads_end}
use Rattle.text.proofs.hex.read_hex.Goals as goal

pub loop-i-init : goal.loop-i-init
loop-i-init c = reads_none _ _

pub loop-i-preserved : goal.loop-i-preserved
loop-i-preserved c = reads_next c.args.text.now c.loop-i.i (omega arith) c.loop-i.invariant c.in_ok-r.ensures (omega arith)

pub returns-in_err-r : goal.returns-in_err-r
returns-in_err-r c =
    let p = err_from_is_err_and c.from_residual.result c.from_residual.ensures.1 in
    rw (p.1, p.2) (reads_wrong c.args.text.now c.loop-i.i (omega arith) c.loop-i.invariant c.in_err-r.ensures)

pub returns : goal.returns
returns c = reads_end c.args.text.now c.loop-i.i (omega arith) c.loop-i.invariant c.at_end.ensures
