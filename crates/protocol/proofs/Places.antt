-- A value that receive indicates stands at its place in the octets that were lent, within them: a caller may take `&apdu[at..end]`.
use Rattle.std.specs.Prelude.{Option, Some, None}
use Prim.Native.Nat.{ℕ}
use mathlib.Core.Bool.{Bool, true, false, cond}
use mathlib.Core.List.{List}
use lib.Dec.{eqb}
use Rattle.codes.specs.declared.Code.{Code}
use Rattle.records.specs.Held.{Held}
use Rattle.optable.specs.declared.Service.{Service}
use Rattle.optable.specs.declared.Service.TheVariants.{Probe, Acknowledge, Ordinary}
use Rattle.optable.specs.Service.{service_of}
use Rattle.apdu.specs.Field.{Part}
use Rattle.apdu.specs.Parse.{Apdu, badly_structured, unrecognized, mistyped, parse, invoke as Invoke, result as Result, error as Error, reject as Reject}
use Rattle.apdu.proofs.ValuePlace.{ValueStands, BodyStands, ApduStands, parse_stands}
use Rattle.protocol.specs.Call.{Indication, invoked, resulted, erred, rejected_u, rejected_p, receive, indicated_by}
use Rattle.protocol.specs.Receive.{field_code, invoke_checks, invoke_done, result_checks, error_checks, receive_apdu}
use Rattle.protocol.specs.Perform.{checks, done, perform}
use Rattle.protocol.proofs.Checks.{settle}

-- the value of an indication stands in x
abbrev pub ShownStands : List ℕ → Option Indication → Type 0
ShownStands x None = Unit {0}
ShownStands x (Some (invoked i l c v)) = ValueStands x v
ShownStands x (Some (resulted i b c)) = BodyStands x b
ShownStands x (Some (erred i e v c)) = ValueStands x v
ShownStands x (Some (rejected_u i kind p)) = Unit {0}
ShownStands x (Some (rejected_p i p)) = Unit {0}

module _ (T : List ℕ) (s : Held) (x : List ℕ) where
  invoked_stands : (i : ℕ) (l : Option ℕ) (c : Code) (v : Option Part) (q : Service) → ValueStands x v → ShownStands x (indicated_by (invoke_done T s i l c v q))
  unfolding invoke_done
  invoked_stands i l c v Probe w = tt
  invoked_stands i l c v Acknowledge w = tt
  invoked_stands i l c v Ordinary w = w

  received_stands : (p : Apdu) → ApduStands x p → ShownStands x (indicated_by (receive_apdu T s x p))
  unfolding receive_apdu
  received_stands (badly_structured p) w = tt
  received_stands unrecognized w = tt
  received_stands (mistyped i) w = tt
  received_stands (Invoke i l c v) w = settle (λ a. ShownStands x (indicated_by a)) (invoke_checks T s i l c v) _ (λ _. tt) (λ _. invoked_stands i l (field_code c) v (service_of (field_code c)) w)
  received_stands (Result i b) w = settle (λ a. ShownStands x (indicated_by a)) (result_checks T s i b) _ (λ _. tt) (λ _. w)
  received_stands (Error i e v) w = settle (λ a. ShownStands x (indicated_by a)) (error_checks T s i e v) _ (λ _. tt) (λ _. w)
  received_stands (Reject None kind p) w = tt
  received_stands (Reject (Some i) kind p) w = silent (eqb kind 0x80)
    where
      silent : (b : Bool) → ShownStands x (Some (cond b (rejected_p (Some i) p) (rejected_u i kind p)))
      silent true = tt
      silent false = tt

  pub shown_stands : (room : ℕ) → ShownStands x (indicated_by (perform T s (receive x room)))
  unfolding perform done
  shown_stands room = settle (λ a. ShownStands x (indicated_by a)) (checks T s (receive x room)) (receive_apdu T s x (parse x)) (λ _. tt) (λ _. received_stands (parse x) (parse_stands x))
