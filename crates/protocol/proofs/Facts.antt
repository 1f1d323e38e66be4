-- What the passed checks of a call give, each fact by its name; a check is found by its number, so that no law counts places in a list.
use Rattle.std.specs.Prelude.{Option, Some, None}
use Prim.Native.Nat.{ℕ}
use mathlib.Core.Path.{◌≡◌}
use mathlib.Core.Bool.{true, false, not, ◌&&◌, false≢true}
use mathlib.Core.List.{List}
use borrow.Author.Tests.{not-false}
use Rattle.base.proofs.Tests.{and_left}
use Rattle.base.specs.Lists.{non_empty}
use Rattle.codes.specs.declared.Code.{Code}
use Rattle.codes.specs.Code.{code_right}
use Rattle.records.specs.Held.{Held}
use Rattle.records.specs.Records.{member}
use Rattle.records.specs.Numbers.{among}
use Rattle.optable.specs.declared.Rule.{Rule}
use Rattle.optable.specs.declared.Service.TheVariants.{Ordinary}
use Rattle.optable.specs.Service.{service_of}
use Rattle.optable.specs.Validity.{valid}
use Rattle.optable.specs.Lookup.{operation_of, listed, result_of, error_of, known, parameter_of, paired, child_of}
use Rattle.optable.proofs.NameLaws.{listed_code_right, known_code_right}
use Rattle.optable.specs.Value.{value_right}
use Rattle.apdu.specs.Field.{Part}
use Rattle.apdu.specs.Parse.{CodedValue}
use Rattle.apdu.specs.Encode.{encode_invoke, encode_error, encode_reject}
use Rattle.protocol.specs.Call.{own, Call, invoke, result, error, reject, forget}
use Rattle.protocol.specs.Check.{own_records, peer_records, resting_ids, code_in, is_full, class_in, is_silent, is_class, is_linked, linked_to, usable, in_apdu, in_body, within_limits, too_short}
use Rattle.protocol.specs.Receive.{field_code, is_operation, invoke_checks, result_checks, error_checks}
use Rattle.protocol.specs.Perform.{later_checks, checks, result_apdu}
use Rattle.protocol.proofs.Checks.{Pass, passed}

-- ---- requests

-- an APDU x, whose value v stands so many levels down, goes out
pub record Sendable (down : ℕ) (v x : List ℕ) (room : ℕ) : Type 0 where
  pub within : within_limits down (non_empty v) x ≡ true
  pub fits : too_short room x ≡ false

pub record InvokeFacts (T : List ℕ) (s : Held) (i : ℕ) (c : Code) (l : Option ℕ) (v : List ℕ) (room : ℕ) : Type 0 where
  pub known : listed (operation_of T c) ≡ true
  pub new : member i (own_records s) ≡ false
  pub free : among i (resting_ids s) ≡ false
  pub parent : (is_linked l && not (member (linked_to l) (peer_records s))) ≡ false
  pub child : (is_linked l && not (child_of T (code_in (peer_records s) (linked_to l)) c)) ≡ false
  pub vacant : (not (is_silent T c) && is_full (own_records s)) ≡ false
  pub sendable : Sendable in_apdu v (encode_invoke i l c (non_empty v)) room

-- a result or an error x: the classes a and b forbid it, and its value has a rule
pub record AnswerFacts (T : List ℕ) (s : Held) (i a b : ℕ) (rule : Rule) (down : ℕ) (v x : List ℕ) (room : ℕ) : Type 0 where
  pub live : member i (peer_records s) ≡ true
  pub class : is_class a b (class_in T (code_in (peer_records s) i)) ≡ false
  pub right : value_right rule (non_empty v) ≡ true
  pub sendable : Sendable down v x room

module _ (T : List ℕ) (s : Held) (i : ℕ) (v : List ℕ) (room : ℕ) where
  pub invoke_facts : (c : Code) (l : Option ℕ) → Pass (checks T s (invoke i c l v room)) → InvokeFacts T s i c l v room
  unfolding later_checks
  invoke_facts c l p =
      let by = passed (checks T s (invoke i c l v room)) p in
      record {
        known = not-false _ (by 4);
        new = by 5;
        free = by 22;
        parent = by 7;
        child = by 8;
        vacant = by 14;
        sendable = record { within = not-false _ (by 15); fits = by 2 };
      }

  pub result_facts : Pass (checks T s (result i v room)) → AnswerFacts T s i 3 5 (result_of (operation_of T (code_in (peer_records s) i))) in_body v (result_apdu s i v) room
  unfolding later_checks
  result_facts p =
      let by = passed (checks T s (result i v room)) p in
      record {
        live = not-false _ (by 11);
        class = by 12;
        right = not-false _ (by 10);
        sendable = record { within = not-false _ (by 15); fits = by 2 };
      }

  pub error_facts : (e : Code) → Pass (checks T s (error i e v room)) → AnswerFacts T s i 4 5 (parameter_of (error_of T e)) in_apdu v (encode_error i e (non_empty v)) room
  unfolding later_checks
  error_facts e p =
      let by = passed (checks T s (error i e v room)) p in
      record {
        live = not-false _ (by 11);
        class = by 12;
        right = not-false _ (by 10);
        sendable = record { within = not-false _ (by 15); fits = by 2 };
      }

pub reject_fits : (T : List ℕ) (s : Held) (i p room : ℕ) → Pass (checks T s (reject i p room)) → too_short room (encode_reject (Some i) 0x81 p) ≡ false
unfolding later_checks
reject_fits T s i p room h = passed (checks T s (reject i p room)) h 2

pub forgotten_live : (T : List ℕ) (s : Held) (i : ℕ) → Pass (checks T s (forget own i)) → member i (own_records s) ≡ true
unfolding later_checks
forgotten_live T s i h = not-false _ (passed (checks T s (forget own i)) h 11)

-- a call that passed its checks has a valid table
pub table_valid : (T : List ℕ) (s : Held) (c : Call) → Pass (checks T s c) → valid T ≡ true
unfolding usable
table_valid T s c p = and_left (valid T) _ (not-false _ (passed (checks T s c) p 1))

-- an operation that was invoked, and an error that was given, have codes of their form
pub invoked_right : (T : List ℕ) (s : Held) (i : ℕ) (c : Code) (l : Option ℕ) (v : List ℕ) (room : ℕ) → Pass (checks T s (invoke i c l v room)) → code_right c ≡ true
unfolding later_checks
invoked_right T s i c l v room p =
    listed_code_right T (table_valid T s (invoke i c l v room) p) c (not-false _ (passed (checks T s (invoke i c l v room)) p 4))

pub erred_right : (T : List ℕ) (s : Held) (i : ℕ) (e : Code) (v : List ℕ) (room : ℕ) → Pass (checks T s (error i e v room)) → code_right e ≡ true
unfolding later_checks
erred_right T s i e v room p =
    known_code_right T (table_valid T s (error i e v room) p) e (and_left (known (error_of T e)) _ (not-false _ (passed (checks T s (error i e v room)) p 13)))

-- ---- received APDUs

pub record ArrivedInvoke (T : List ℕ) (s : Held) (i : ℕ) (c : Option Code) : Type 0 where
  pub new : member i (peer_records s) ≡ false
  pub known : is_operation T c ≡ true
  -- resourceLimitation is asked of every operation but probe and acknowledge
  pub vacant : service_of (field_code c) ≡ Ordinary → (not (is_silent T (field_code c)) && is_full (peer_records s)) ≡ false

pub arrived_invoke : (T : List ℕ) (s : Held) (i : ℕ) (l : Option ℕ) (c : Option Code) (v : Option Part) → Pass (invoke_checks T s i l c v) → ArrivedInvoke T s i c
unfolding invoke_checks
arrived_invoke T s i l c v p =
    let by = passed (invoke_checks T s i l c v) p in
    record { new = by 0; known = not-false _ (by 1); vacant = λ q. rw q at (by 3) }

-- the operation of an accepted Invoke is in the table
pub operation_listed : (T : List ℕ) (c : Option Code) → is_operation T c ≡ true → listed (operation_of T (field_code c)) ≡ true
operation_listed T (Some c) h = h
operation_listed T None h = absurd (false≢true h)

pub arrived_result : (T : List ℕ) (s : Held) (i : ℕ) (b : Option CodedValue) → Pass (result_checks T s i b) → member i (own_records s) ≡ true
unfolding result_checks
arrived_result T s i b p = not-false _ (passed (result_checks T s i b) p 0)

pub record ArrivedError (T : List ℕ) (s : Held) (i : ℕ) (e : Option Code) : Type 0 where
  pub live : member i (own_records s) ≡ true
  pub listed : paired T (code_in (own_records s) i) (field_code e) ≡ true

pub arrived_error : (T : List ℕ) (s : Held) (i : ℕ) (e : Option Code) (v : Option Part) → Pass (error_checks T s i e v) → ArrivedError T s i e
unfolding error_checks
arrived_error T s i e v p =
    let by = passed (error_checks T s i e v) p in
    record { live = not-false _ (by 0); listed = not-false _ (by 3) }
