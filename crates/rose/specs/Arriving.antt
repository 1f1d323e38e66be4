-- What a received Invoke asks for.
use Rattle.std.specs.Prelude.{ℕ, ◌≡◌, List, Option, Some}
use Rattle.optable.specs.Class.{class_number}
use Rattle.codes.specs.declared.Code.{Code}
use Rattle.protocol.specs.Check.{class_in}
use Rattle.rose.specs.declared.arriving.Arriving.{Arriving}

-- an operation of the code in the field, with its class
pub record Arrives (T : List ℕ) (f : Option Code) (a : Arriving) : Type 0 where
  pub code : f ≡ Some a.code
  pub class : class_number a.class ≡ class_in T a.code
