-- The six calls as ordered checks and what is answered when all pass: 'Receiving, in order of check' and 'Requests, in order of check'.
use Rattle.std.specs.Prelude.{ℕ, Bool, cond, not, ◌&&◌, ◌||◌, List, [], ◌∷◌, ◌++◌, length, eqb, ltb, Some, None}
use Rattle.codes.specs.declared.Code.{Code}
use Rattle.records.specs.Limits.{octets, levels}
use Rattle.records.specs.Records.{member}
use Rattle.records.specs.Numbers.{among}
use Rattle.records.specs.State.{add_own, retire_peer, forget_own}
use Rattle.records.specs.Held.{Held, in_state, keep_answer}
use Rattle.optable.specs.Lookup.{operation_of, listed, argument_of, result_of, error_of, known, parameter_of, paired, child_of, room_needed}
use Rattle.optable.specs.Service.{service_of, answers_itself}
use Rattle.optable.specs.Value.{value_right}
use Rattle.ber.specs.Element.{is_more, is_fault}
use Rattle.apdu.specs.Parse.{parse}
use Rattle.base.specs.Lists.{non_empty}
use Rattle.apdu.specs.Encode.{encode_invoke, encode_result, encode_error, encode_reject}
use Rattle.protocol.specs.Call.{own, peer, Call, receive, invoke, result, error, reject, forget, Answer, accepted}
use Rattle.protocol.specs.Check.{Check, ◌⇐◌, answer, shared, own_records, peer_records, resting_ids, code_in, is_full, class_in, is_silent, is_class, is_busy, is_linked, linked_to, value_finding, in_apdu, in_body, within_limits, too_short}
use Rattle.protocol.specs.Service.{keeps_answers}
use Rattle.protocol.specs.Receive.{receive_apdu}

-- 2, 3 or 4 of the invoke problems
abbrev pub is_user_problem : ℕ → Bool
is_user_problem p = eqb p 2 || (eqb p 3 || eqb p 4)

-- the APDU that a result request writes: its record's code stands beside a value
abbrev pub result_apdu : Held → ℕ → List ℕ → List ℕ
result_apdu s i v = encode_result i (code_in (peer_records s) i) (non_empty v)

-- ---- the checks of each call behind 19 and 1, in order, 21 directly after 9 and 22 directly after 5

unfoldable pub later_checks : List ℕ → Held → Call → List Check
-- Receive: 19, 1, 3, 2, the room being what the table needs
later_checks T s (receive x room) = (3 ⇐ ltb octets (length x)) ∷ (2 ⇐ ltb room (room_needed T)) ∷ []
-- Invoke: 19, 1, 4, 5, 22, 6 (not for probe and acknowledge), 7, 8, 9, 21, 10, 14, 15, 2
later_checks T s (invoke i c l v room) =
    (4 ⇐ not (listed (operation_of T c)))
    ∷ (5 ⇐ member i (own_records s))
    ∷ (22 ⇐ among i (resting_ids s))
    ∷ (6 ⇐ (not (answers_itself (service_of c)) && is_busy T (own_records s)))
    ∷ (7 ⇐ (is_linked l && not (member (linked_to l) (peer_records s))))
    ∷ (8 ⇐ (is_linked l && not (child_of T (code_in (peer_records s) (linked_to l)) c)))
    ∷ (9 ⇐ is_fault (value_finding levels (non_empty v)))
    ∷ (21 ⇐ is_more (value_finding levels (non_empty v)))
    ∷ (10 ⇐ not (value_right (argument_of (operation_of T c)) (non_empty v)))
    ∷ (14 ⇐ (not (is_silent T c) && is_full (own_records s)))
    ∷ (15 ⇐ not (within_limits in_apdu (non_empty v) (encode_invoke i l c (non_empty v))))
    ∷ (2 ⇐ too_short room (encode_invoke i l c (non_empty v)))
    ∷ []
-- Result: 19, 1, 11, 12, 9, 21, 10, 15, 2
later_checks T s (result i v room) =
    (11 ⇐ not (member i (peer_records s)))
    ∷ (12 ⇐ is_class 3 5 (class_in T (code_in (peer_records s) i)))
    ∷ (9 ⇐ is_fault (value_finding levels (non_empty v)))
    ∷ (21 ⇐ is_more (value_finding levels (non_empty v)))
    ∷ (10 ⇐ not (value_right (result_of (operation_of T (code_in (peer_records s) i))) (non_empty v)))
    ∷ (15 ⇐ not (within_limits in_body (non_empty v) (result_apdu s i v)))
    ∷ (2 ⇐ too_short room (result_apdu s i v))
    ∷ []
-- Error: 19, 1, 11, 12, 13, 9, 21, 10, 15, 2
later_checks T s (error i e v room) =
    (11 ⇐ not (member i (peer_records s)))
    ∷ (12 ⇐ is_class 4 5 (class_in T (code_in (peer_records s) i)))
    ∷ (13 ⇐ not (known (error_of T e) && paired T (code_in (peer_records s) i) e))
    ∷ (9 ⇐ is_fault (value_finding levels (non_empty v)))
    ∷ (21 ⇐ is_more (value_finding levels (non_empty v)))
    ∷ (10 ⇐ not (value_right (parameter_of (error_of T e)) (non_empty v)))
    ∷ (15 ⇐ not (within_limits in_apdu (non_empty v) (encode_error i e (non_empty v))))
    ∷ (2 ⇐ too_short room (encode_error i e (non_empty v)))
    ∷ []
-- User reject: 19, 1, 16, 11, 2
later_checks T s (reject i p room) =
    (16 ⇐ not (is_user_problem p))
    ∷ (11 ⇐ not (member i (peer_records s)))
    ∷ (2 ⇐ too_short room (encode_reject (Some i) 0x81 p))
    ∷ []
-- Forget: 19, 1, 11, 12; an own record, or a peer record whose class is neither 1 nor 2
later_checks T s (forget own i) = (11 ⇐ not (member i (own_records s))) ∷ []
later_checks T s (forget peer i) =
    (11 ⇐ not (member i (peer_records s)))
    ∷ (12 ⇐ is_class 1 2 (class_in T (code_in (peer_records s) i)))
    ∷ []

-- 19 and 1 come first in every call
abbrev pub checks : List ℕ → Held → Call → List Check
checks T s c = shared T s ++ later_checks T s c

-- ---- what each call answers when every check passes

-- an accepted invoke makes an own record unless class 5
abbrev pub with_own : List ℕ → Held → ℕ → Code → Held
with_own T s i c = cond (is_silent T c) s (in_state s (add_own s.state (record { 0 = i }) c))

-- a peer record is retired
abbrev pub without_peer : Held → ℕ → Held
without_peer s i = in_state s (retire_peer s.state (record { 0 = i }))

-- result and error retire their peer record and keep the APDU
abbrev pub answering : List ℕ → Held → ℕ → List ℕ → Held
answering T s i x = keep_answer (keeps_answers T (code_in (peer_records s) i)) (without_peer s i) (record { 0 = i }) x

-- a user reject retires its peer record; an own id that is forgotten rests
unfoldable pub done : List ℕ → Held → Call → Answer
done T s (receive x room) = receive_apdu T s x (parse x)
done T s (invoke i c l v room) = accepted None (with_own T s i c) (encode_invoke i l c (non_empty v) ∷ [])
done T s (result i v room) = accepted None (answering T s i (result_apdu s i v)) (result_apdu s i v ∷ [])
done T s (error i e v room) = accepted None (answering T s i (encode_error i e (non_empty v))) (encode_error i e (non_empty v) ∷ [])
done T s (reject i p room) = accepted None (without_peer s i) (encode_reject (Some i) 0x81 p ∷ [])
done T s (forget own i) = accepted None (in_state s (forget_own s.state (record { 0 = i }))) []
done T s (forget peer i) = accepted None (without_peer s i) []

unfoldable pub perform : List ℕ → Held → Call → Answer
perform T s c = answer (checks T s c) (done T s c)
