-- None of the operations before entry i is acknowledge.
use Rattle.std.proofs.Common.{◌≡◌, false}
use Rattle.base.specs.Count.{any}
use Rattle.optable.specs.Read.{has_code}
use Rattle.optable.specs.Service.{acknowledge_code}
use Rattle.optable.specs.declared.Part.TheVariants.{Operations}
use Rattle.optable.proofs.services.has_acknowledge.Given as goal

abbrev pub invariant-loop-i : goal.invariant-loop-i
invariant-loop-i l = any (has_code l.table Operations acknowledge_code) l.i ≡ false
