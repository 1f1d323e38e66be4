-- The six calls and what one answers: 'What is built', 'Requests, in order of check', and the place of a fault, 'Where octets are at fault'.
use Rattle.std.specs.Prelude.{ℕ, Bool, true, false, cond, ◌&&◌, ◌||◌, List, [], ◌∷◌, ◌++◌, eqb, Option, None}
use Rattle.codes.specs.declared.Code.{Code}
use Rattle.records.specs.Held.{Held}
use Rattle.records.specs.Limits.{levels}
use Rattle.ber.specs.Element.{place}
use Rattle.apdu.specs.Field.{Part}
use Rattle.apdu.specs.Parse.{CodedValue}
use Rattle.apdu.specs.Encode.{encode_reject}

-- whose records are meant
pub data Side : Type 0 where
  own peer : Side

-- a call with its arguments but the state; a given value is empty for none, and `room` is how many output octets are lent
pub data Call : Type 0 where
  -- octets, room
  receive : List ℕ → ℕ → Call
  -- id, code, linked id, value, room
  invoke : ℕ → Code → Option ℕ → List ℕ → ℕ → Call
  -- id, value, room
  result : ℕ → List ℕ → ℕ → Call
  -- id, error code, value, room
  error : ℕ → Code → List ℕ → ℕ → Call
  -- id, problem, room
  reject : ℕ → ℕ → ℕ → Call
  -- side, id
  forget : Side → ℕ → Call

-- what a received APDU is indicated as: every field, absent ones as none, a value as a part of the lent octets; a result and an error also
-- with the record's operation code
pub data Indication : Type 0 where
  -- id, linked id, operation code, argument
  invoked : ℕ → Option ℕ → Code → Option Part → Indication
  -- id, code and value, the record's operation code
  resulted : ℕ → Option CodedValue → Code → Indication
  -- id, error code, parameter, the record's operation code
  erred : ℕ → Code → Option Part → Code → Indication
  -- RO-REJECT-U: id, the problem's kind 81 to 83, the problem
  rejected_u : ℕ → ℕ → ℕ → Indication
  -- RO-REJECT-P: id, the general problem
  rejected_p : Option ℕ → ℕ → Indication

-- a refusal: its number in 'The table of refusals'; 18 also returns the problem's kind and number, and the id that its Reject carries
pub data Refusal : Type 0 where
  plain : ℕ → Refusal
  rejecting : Option ℕ → ℕ → ℕ → Refusal

-- what a call answers: accepted with what it indicates, what the end then holds and the APDUs that it wrote, end to end, or refused
pub data Answer : Type 0 where
  accepted : Option Indication → Held → List (List ℕ) → Answer
  refused : Refusal → Answer

abbrev pub refusal_number : Refusal → ℕ
refusal_number (plain n) = n
refusal_number (rejecting i kind problem) = 18

-- a refusal writes nothing, except that 18 writes the Reject
abbrev pub reject_written : Refusal → List (List ℕ)
reject_written (plain n) = []
reject_written (rejecting i kind problem) = encode_reject i kind problem ∷ []

abbrev pub is_refused : Answer → Bool
is_refused (accepted i s x) = false
is_refused (refused r) = true

abbrev pub indicated_by : Answer → Option Indication
indicated_by (accepted i s x) = i
indicated_by (refused r) = None

-- each APDU written, in order
abbrev pub written_by : Answer → List (List ℕ)
written_by (accepted i s l) = l
written_by (refused r) = reject_written r

abbrev pub end_to_end : List (List ℕ) → List ℕ
end_to_end [] = []
end_to_end (x ∷ l) = x ++ end_to_end l

-- the octets written
abbrev pub octets_by : Answer → List ℕ
octets_by a = end_to_end (written_by a)

-- the refusals that name a place in the octets that a call was given: general 2, 9, 17 and 21
abbrev pub names_place : Refusal → Bool
names_place (plain n) = eqb n 9 || (eqb n 17 || eqb n 21)
names_place (rejecting i kind problem) = eqb kind 0x80 && eqb problem 2

-- the place that an answer names is that of the first fault in these octets; every other answer has 0
unfoldable pub place_named : List ℕ → Answer → ℕ
place_named x (accepted i s w) = 0
place_named x (refused r) = cond (names_place r) (place levels x) 0

-- a refusal hands back the same records, and changes no octet of the store
abbrev pub held_after : Held → Answer → Held
held_after s (accepted i t x) = t
held_after s (refused r) = s
