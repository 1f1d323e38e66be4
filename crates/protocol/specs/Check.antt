-- A call is an ordered list of checks, and what it answers when all pass; and what the checks ask: 'The table of refusals'.
use Rattle.std.specs.Prelude.{ℕ, ◌-◌, Bool, true, false, cond, not, ◌&&◌, ◌||◌, List, [], ◌∷◌, length, eqb, leb, ltb, Option, Some, None}
use Rattle.codes.specs.declared.Code.{Code}
use Rattle.codes.specs.declared.Code.TheVariants.{Local}
use Rattle.records.specs.declared.Record.{Record}
use Rattle.records.specs.Limits.{octets, levels, records}
use Rattle.records.specs.Records.{view, lookup}
use Rattle.records.specs.Resting.{view_ids}
use Rattle.records.specs.Held.{Held, sound_held}
use Rattle.ber.specs.declared.element.Finding.{Finding}
use Rattle.ber.specs.declared.element.Finding.TheVariants.{One}
use Rattle.ber.specs.Element.{well_formed, finding_in}
use Rattle.optable.specs.Validity.{valid}
use Rattle.optable.specs.Lookup.{operation_of, listed, class_of}
use Rattle.protocol.specs.Call.{Refusal, plain, Answer, refused}

-- ---- the order of checks

-- a check: whether it fails, and the refusal that it then gives
pub record Check : Type 0 where
  pub why : Refusal
  pub fails : Bool

infix 66 ◌⇐◌
-- refusal n is given exactly when
abbrev pub ◌⇐◌ : ℕ → Bool → Check
n ⇐ b = record { why = plain n; fails = b }

-- the first check that fails refuses
abbrev pub answer : List Check → Answer → Answer
answer [] a = a
answer (c ∷ cs) a = cond c.fails (refused c.why) (answer cs a)

-- ---- the records

abbrev pub own_records : Held → List Record
own_records s = view s.state.own

abbrev pub peer_records : Held → List Record
peer_records s = view s.state.peer

-- the own ids that rest
abbrev pub resting_ids : Held → List ℕ
resting_ids s = view_ids s.state.resting

-- the record's operation code; 0 where there is no record
abbrev pub code_found : Option Code → Code
code_found (Some c) = c
code_found None = Local 0

abbrev pub code_in : List Record → ℕ → Code
code_in l i = code_found (lookup i l)

-- as many records as a side holds
abbrev pub is_full : List Record → Bool
is_full l = leb records (length l)

-- ---- the table

abbrev pub class_in : List ℕ → Code → ℕ
class_in T c = class_of (operation_of T c)

-- a class 5 invocation makes no record
abbrev pub is_silent : List ℕ → Code → Bool
is_silent T c = eqb (class_in T c) 5

abbrev pub is_class : ℕ → ℕ → ℕ → Bool
is_class a b class = eqb class a || eqb class b

-- each record's code is in the table
abbrev pub covered : List ℕ → List Record → Bool
covered T [] = true
covered T (r ∷ l) = listed (operation_of T r.code) && covered T l

-- refusal 1: table not valid, or lacks a live record's code
unfoldable pub usable : List ℕ → Held → Bool
usable T s = valid T && (covered T (own_records s) && covered T (peer_records s))

-- refusal 6: an own class 1 record is live
abbrev pub is_busy : List ℕ → List Record → Bool
is_busy T [] = false
is_busy T (r ∷ l) = eqb (class_in T r.code) 1 || is_busy T l

-- 19 and 1 come first in every call
abbrev pub shared : List ℕ → Held → List Check
shared T s = (19 ⇐ not (sound_held s)) ∷ (1 ⇐ not (usable T s)) ∷ []

-- ---- linked ids

abbrev pub is_linked : Option ℕ → Bool
is_linked None = false
is_linked (Some i) = true

abbrev pub linked_to : Option ℕ → ℕ
linked_to None = 0
linked_to (Some i) = i

-- ---- values and APDUs

-- what a value is, which should be one well-formed element or none, with so many levels left: refusals 9 and 21
unfoldable pub value_finding : ℕ → Option (List ℕ) → Finding
value_finding d None = One
value_finding d (Some v) = finding_in d v

-- one well-formed element, or none
unfoldable pub value_well : ℕ → Option (List ℕ) → Bool
value_well d None = true
value_well d (Some v) = well_formed d v

-- how many levels down a value stands: directly in an Invoke or an Error, and in 30 in a Result
abbrev pub in_apdu : ℕ
in_apdu = 1

abbrev pub in_body : ℕ
in_body = 2

-- refusal 15: an APDU x within 4,096 octets and 16 levels, whose value stands so many levels down. Where 9 and 21 pass this is so exactly
-- where x has at most 4,096 octets and is well-formed with 16 levels: proofs/Levels.antt, `invoke_within`, `result_within`, `error_within`
unfoldable pub within_limits : ℕ → Option (List ℕ) → List ℕ → Bool
within_limits down v x = leb (length x) octets && value_well (levels - down) v

-- refusal 2 of a request: output shorter than the APDU
abbrev pub too_short : ℕ → List ℕ → Bool
too_short room x = ltb room (length x)
