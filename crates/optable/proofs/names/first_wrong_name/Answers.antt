-- The first wrong name is the first of those left.
use Rattle.std.proofs.Common.{sym, ◌∙◌, arith}
use Rattle.optable.proofs.FaultLaws.{wrong_found, right_passed, walk_ended}
use Rattle.optable.proofs.names.first_wrong_name.Goals as goal

pub returns-in-Err : goal.returns-in-Err
returns-in-Err c = wrong_found _ _ _ _ c.loop-index.invariant (omega arith) (sym c.name_breach.ensures ∙ c.in-Err.is)

pub loop-index-preserved : goal.loop-index-preserved
loop-index-preserved c = right_passed _ _ _ _ c.loop-index.invariant (omega arith) (sym c.name_breach.ensures ∙ c.in_default.is)

pub returns : goal.returns
returns c = walk_ended _ _ _ _ c.loop-index.invariant (omega arith)
