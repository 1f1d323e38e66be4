-- None of the names before name h is the name.
use Rattle.std.proofs.Common.{◌≡◌, false}
use Rattle.base.specs.Count.{any}
use Rattle.optable.specs.Validity.{same_names}
use Rattle.optable.proofs.names.is_new_name.Given as goal

abbrev pub invariant-loop-h : goal.invariant-loop-h
invariant-loop-h l = any (same_names l.table l.i) l.h ≡ false
