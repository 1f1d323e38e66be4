-- The first wrong name is the first of those left.
use Rattle.std.proofs.Common.{◌≡◌, ◌-◌, not}
use Rattle.codes.specs.Count.{seek}
use Rattle.optable.specs.declared.Part.TheVariants.{Names}
use Rattle.optable.specs.Fault.{first_wrong}
use Rattle.optable.specs.Validity.{entry_right}
use Rattle.optable.proofs.names.first_wrong_name.Given as goal

abbrev pub invariant-loop-index : goal.invariant-loop-index
invariant-loop-index l = first_wrong l.table Names ≡ seek (λ j. not (entry_right l.table Names j)) (l.n - l.index) l.index
