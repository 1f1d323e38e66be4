-- Receiving, in order of check, behind 19, 1, 3 and 2: 'Receiving, in order of check', and 'Probe and acknowledge'.
use Rattle.std.specs.Prelude.{ℕ, Bool, false, cond, not, ◌&&◌, List, [], ◌∷◌, get_or, eqb, Option, Some, None}
use Rattle.codes.specs.declared.Code.{Code}
use Rattle.codes.specs.declared.Code.TheVariants.{Local}
use Rattle.codes.specs.Code.{same_code}
use Rattle.records.specs.Records.{member}
use Rattle.records.specs.State.{add_peer, retire_own}
use Rattle.records.specs.Held.{Held, in_state, drop_answer}
use Rattle.optable.specs.Lookup.{operation_of, listed, argument_of, result_of, error_of, known, parameter_of, paired, child_of, has_child}
use Rattle.optable.specs.Value.{value_right}
use Rattle.optable.specs.declared.Service.{Service}
use Rattle.optable.specs.declared.Service.TheVariants.{Probe, Acknowledge, Ordinary}
use Rattle.optable.specs.Service.{service_of, answers_itself}
use Rattle.apdu.specs.Field.{Part, octets_of}
use Rattle.apdu.specs.Parse.{CodedValue, body_value, Apdu, badly_structured, unrecognized, mistyped, invoke, result, error, reject}
use Rattle.protocol.specs.Call.{Indication, invoked, resulted, erred, rejected_u, rejected_p, Refusal, plain, rejecting, Answer, accepted, refused}
use Rattle.protocol.specs.Check.{Check, answer, own_records, peer_records, code_in, is_full, class_in, is_silent, is_class, is_linked, linked_to}
use Rattle.protocol.specs.Service.{about, inside_right, probed, acknowledged}

-- a code that is none of the table's counts as 0 where it is not asked for
abbrev pub field_code : Option Code → Code
field_code (Some c) = c
field_code None = Local 0

abbrev pub is_operation : List ℕ → Option Code → Bool
is_operation T (Some c) = listed (operation_of T c)
is_operation T None = false

abbrev pub is_error : List ℕ → Option Code → Bool
is_error T (Some e) = known (error_of T e)
is_error T None = false

abbrev pub is_code_of : Option Code → Code → Bool
is_code_of (Some c) d = same_code c d
is_code_of None d = false

-- a code is present and is not the record's
abbrev pub other_code : Option CodedValue → Code → Bool
other_code None d = false
other_code (Some b) d = not (is_code_of b.code d)

-- a problem of a kind with the received id
abbrev pub problem : ℕ → ℕ → ℕ → Bool → Check
problem kind i p b = record { why = rejecting (Some i) kind p; fails = b }

-- ---- steps 1 and 2: a general problem, or 17 if the first octet is A4

unfoldable pub fault : List ℕ → ℕ → Option ℕ → Refusal
fault x p i = cond (eqb (get_or x 0 0) 0xA4) (plain 17) (rejecting i 0x80 p)

-- ---- step 3: Invoke

unfoldable pub invoke_checks : List ℕ → Held → ℕ → Option ℕ → Option Code → Option Part → List Check
invoke_checks T s i l c v =
    -- duplicateInvocation: id among peer records
    problem 0x81 i 0 (member i (peer_records s))
    -- unrecognizedLinkedId: not among own records
    ∷ problem 0x81 i 5 (is_linked l && not (member (linked_to l) (own_records s)))
    -- linkedResponseUnexpected: parent has no child pair
    ∷ problem 0x81 i 6 (is_linked l && not (has_child T (code_in (own_records s) (linked_to l))))
    -- unrecognizedOperation
    ∷ problem 0x81 i 1 (not (is_operation T c))
    -- mistypedArgument, the inside of a probe's or an acknowledge's included
    ∷ problem 0x81 i 2 (not (value_right (argument_of (operation_of T (field_code c))) (octets_of v) && inside_right (service_of (field_code c)) (octets_of v)))
    -- unexpectedLinkedOperation
    ∷ problem 0x81 i 7 (is_linked l && not (child_of T (code_in (own_records s) (linked_to l)) (field_code c)))
    -- resourceLimitation: 32 peer records, class not 5; never for a probe or an acknowledge
    ∷ problem 0x81 i 3 (not (answers_itself (service_of (field_code c))) && (not (is_silent T (field_code c)) && is_full (peer_records s)))
    ∷ []

-- an accepted invoke adds a peer record unless class 5
abbrev pub with_peer : List ℕ → Held → ℕ → Code → Held
with_peer T s i c = cond (is_silent T c) s (in_state s (add_peer s.state (record { 0 = i }) c))

-- probe and acknowledge are answered and not indicated; any other accepted invoke drops the kept answer of its id
unfoldable pub invoke_done : List ℕ → Held → ℕ → Option ℕ → Code → Option Part → Service → Answer
invoke_done T s i l c v Probe = accepted None s (probed s i (linked_to (about Probe (octets_of v))))
invoke_done T s i l c v Acknowledge =
    accepted None (drop_answer s (record { 0 = linked_to (about Acknowledge (octets_of v)) })) (acknowledged s i (linked_to (about Acknowledge (octets_of v))))
invoke_done T s i l c v Ordinary = accepted (Some (invoked i l c v)) (drop_answer (with_peer T s i c) (record { 0 = i })) []

-- an own record is retired
abbrev pub without_own : Held → ℕ → Held
without_own s i = in_state s (retire_own s.state (record { 0 = i }))

-- ---- step 4: Result

unfoldable pub result_checks : List ℕ → Held → ℕ → Option CodedValue → List Check
result_checks T s i b =
    -- unrecognizedInvocation: no own record
    problem 0x82 i 0 (not (member i (own_records s)))
    -- resultResponseUnexpected: class 3 or 5
    ∷ problem 0x82 i 1 (is_class 3 5 (class_in T (code_in (own_records s) i)))
    -- 0 again if a code is present and is not the record's
    ∷ problem 0x82 i 0 (other_code b (code_in (own_records s) i))
    -- mistypedResult
    ∷ problem 0x82 i 2 (not (value_right (result_of (operation_of T (code_in (own_records s) i))) (octets_of (body_value b))))
    ∷ []

-- ---- step 5: Error

unfoldable pub error_checks : List ℕ → Held → ℕ → Option Code → Option Part → List Check
error_checks T s i e v =
    -- unrecognizedInvocation: no own record
    problem 0x83 i 0 (not (member i (own_records s)))
    -- errorResponseUnexpected: class 4 or 5
    ∷ problem 0x83 i 1 (is_class 4 5 (class_in T (code_in (own_records s) i)))
    -- unrecognizedError
    ∷ problem 0x83 i 2 (not (is_error T e))
    -- unexpectedError
    ∷ problem 0x83 i 3 (not (paired T (code_in (own_records s) i) (field_code e)))
    -- mistypedParameter
    ∷ problem 0x83 i 4 (not (value_right (parameter_of (error_of T (field_code e))) (octets_of v)))
    ∷ []

-- ---- Reject

-- an invoke problem retires the own record of its id if there is one; other Rejects change no record
abbrev pub retired_by : Held → Option ℕ → ℕ → Held
retired_by s None kind = s
retired_by s (Some i) kind = cond (eqb kind 0x81) (without_own s i) s

-- general ones are indicated as RO-REJECT-P, others as RO-REJECT-U
abbrev pub rejection : Option ℕ → ℕ → ℕ → Indication
rejection None kind p = rejected_p None p
rejection (Some i) kind p = cond (eqb kind 0x80) (rejected_p (Some i) p) (rejected_u i kind p)

-- ---- by kind; an accepted result or error retires exactly the own record of its id

unfoldable pub receive_apdu : List ℕ → Held → List ℕ → Apdu → Answer
receive_apdu T s x (badly_structured p) = refused (fault x 2 None)
receive_apdu T s x unrecognized = refused (fault x 0 None)
receive_apdu T s x (mistyped i) = refused (fault x 1 i)
receive_apdu T s x (invoke i l c v) =
    answer (invoke_checks T s i l c v) (invoke_done T s i l (field_code c) v (service_of (field_code c)))
receive_apdu T s x (result i b) =
    answer (result_checks T s i b) (accepted (Some (resulted i b (code_in (own_records s) i))) (without_own s i) [])
receive_apdu T s x (error i e v) =
    answer (error_checks T s i e v) (accepted (Some (erred i (field_code e) v (code_in (own_records s) i))) (without_own s i) [])
receive_apdu T s x (reject i kind p) = accepted (Some (rejection i kind p)) (retired_by s i kind) []
