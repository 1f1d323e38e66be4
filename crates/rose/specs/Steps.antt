-- What only serves the proof of a call's parts: the first check that fails. The calls promise what crate protocol defines.
use Rattle.std.specs.Prelude.{ℕ, ◌≡◌, ◌≤◌, Bool, true, false, cond, List, [], ◌∷◌, ◌++◌, length, drop, Result, Ok, Err, Option, Some, None}
use Rattle.protocol.specs.declared.Refusal.{Refusal as Reason}
use Rattle.protocol.specs.Call.{Refusal, end_to_end}
use Rattle.protocol.specs.Check.{Check}
use Rattle.protocol.specs.Reading.{read_refusal}

-- the refusal of the first check that fails
abbrev pub first : List Check → Option Refusal
first [] = None
first (c ∷ cs) = cond c.fails (Some c.why) (first cs)

-- what refuses
abbrev pub refusal_in : {A : Type 0} → Result A Reason → Option Refusal
refusal_in (Ok a) = None
refusal_in (Err why) = Some (read_refusal why)

-- all checks pass, or the first that fails gives the refusal
abbrev pub Checked : {A : Type 0} → List Check → Result A Reason → Type 0
Checked cs r = refusal_in r ≡ first cs

-- a test that fails refuses
abbrev pub refused_if : Bool → Reason → Result (Unit {0}) Reason
refused_if true why = Err why
refused_if false why = Ok tt

-- these APDUs stand at the front of the output, end to end, if they fit
pub record AllWritten (l : List (List ℕ)) (before after : List ℕ) (count : ℕ) : Type 0 where
  pub octets : length (end_to_end l) ≤ length before → after ≡ end_to_end l ++ drop (length (end_to_end l)) before
  pub counted : length (end_to_end l) ≤ length before → count ≡ length (end_to_end l)
