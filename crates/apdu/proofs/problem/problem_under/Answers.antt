-- A number over the highest of its kind, and one that is not.
use Rattle.std.proofs.Common.{refl, arith}
use Rattle.apdu.proofs.ProblemLaws.{high_number, right_number}
use Rattle.apdu.proofs.problem.problem_under.Goals as goal

pub returns-then-number-most : goal.returns-then-number-most
returns-then-number-most c = high_number _ _ c.in-Ok.kind c.in-Ok.ensures _ c.most.ensures c.if-number-most.true

pub returns : goal.returns
returns c = (right_number _ _ c.in-Ok.kind c.in-Ok.ensures _ c.most.ensures c.if-c-ne1.false (omega arith), c.in-Ok.ensures, refl)
