-- The octets that a call writes, taken apart where the length of each APDU says, are the APDUs that it wrote: the book may be fed either.
use Prim.Native.Nat.{ℕ, zero, suc, ◌≤◌, ◌<◌}
use mathlib.Core.Path.{◌≡◌, refl, ap}
use mathlib.Core.Bool.{true, cond}
use mathlib.Core.List.Memᴰ.{not-nil as in-nil}
use mathlib.Core.List.{List, [], ◌∷◌, ◌++◌}
use Rattle.std.specs.Prelude.{Option, Some, None}
use native.Mathlib.Omega.{arith}
use lib.ListN.{length, take, drop, length-append}
use lib.Seq.{take-append_seam, drop-append_seam}
use Rattle.base.specs.Lists.{non_empty}
use Rattle.codes.specs.declared.Code.{Code}
use Rattle.records.specs.Limits.{octets}
use Rattle.records.specs.Kept.{is_kept}
use Rattle.records.specs.Held.{Held, fresh_held, kept_answers}
use Rattle.records.proofs.StoreLaws.{view_packed}
use Rattle.ber.specs.declared.header.Header.{Header}
use Rattle.ber.specs.declared.header.Header.TheVariants.{At, Open}
use Rattle.ber.specs.Header.{one_of, header_of}
use Rattle.ber.specs.Element.{element_octets}
use Rattle.ber.proofs.ElementOctets.{one_octet, header_octets, element_octets_length}
use Rattle.optable.specs.declared.Service.{Service}
use Rattle.optable.specs.declared.Service.TheVariants.{Probe, Acknowledge, Ordinary}
use Rattle.optable.specs.Service.{service_of}
use Rattle.optable.proofs.ServiceLaws.{code_of_service}
use Rattle.apdu.specs.Field.{Part, octets_of}
use Rattle.apdu.specs.Parse.{Apdu, badly_structured, unrecognized, mistyped, parse, invoke as Invoke, result as Result, error as Error, reject as Reject}
use Rattle.apdu.specs.Encode.{encode_invoke, encode_result, encode_error, encode_reject}
use Rattle.apdu.proofs.SizeLaws.{reject_most}
use Rattle.protocol.specs.Call.{own, peer, Call, receive, invoke, result, error, reject, forget, Refusal, plain, rejecting, Answer, refused, written_by, end_to_end, octets_by, held_after}
use Rattle.protocol.specs.Check.{code_in, peer_records, linked_to, in_apdu, in_body}
use Rattle.protocol.specs.Service.{about, enumerated, reply, acknowledged}
use Rattle.protocol.specs.Receive.{field_code, fault, invoke_checks, invoke_done, result_checks, error_checks, receive_apdu}
use Rattle.protocol.specs.Perform.{checks, done, perform}
use Rattle.protocol.proofs.Checks.{Pass, settle}
use Rattle.protocol.proofs.Facts.{invoke_facts, result_facts, error_facts}
use Rattle.protocol.proofs.Replies.{reply_short}
use Rattle.protocol.proofs.Keeping.{Each, EachKept, each_probed}
use Rattle.protocol.proofs.Written.{limits_size}
use Rattle.protocol.proofs.KeptAfter.{each_after}

-- ---- octets taken apart

-- where the element at the front of x ends, as its length says; octets without a definite length there are taken whole
abbrev pub end_by : List ℕ → Option Header → ℕ
end_by x (Some (At id a e)) = e
end_by x (Some (Open id a)) = length x
end_by x None = length x

unfoldable pub first_end : List ℕ → ℕ
first_end x = end_by x (header_of x)

-- at most n elements from the front of the octets on; no octets hold none
abbrev pub parted_within : ℕ → List ℕ → List (List ℕ)
parted_within zero x = []
parted_within (suc n) [] = []
parted_within (suc n) (b ∷ x) = take (first_end (b ∷ x)) (b ∷ x) ∷ parted_within n (drop (first_end (b ∷ x)) (b ∷ x))

-- each element has an octet, so that there are at most as many as octets
unfoldable pub parted : List ℕ → List (List ℕ)
parted x = parted_within (length x) x

-- octets whose length says where they end, whatever stands behind them
record Delimited (x : List ℕ) : Type 0 where
  some : 0 < length x
  ends : (y : List ℕ) → first_end (x ++ y) ≡ length x

parted_in : (n : ℕ) (l : List (List ℕ)) → Each Delimited l → length (end_to_end l) ≤ n → parted_within n (end_to_end l) ≡ l
parted_in zero [] d h = refl
parted_in (suc n) [] d h = refl
parted_in zero (x ∷ l) d h = absurd (omega (arith, length-append x (end_to_end l), d.0.some))
parted_in (suc n) ([] ∷ l) d h = absurd (omega (arith, d.0.some))
parted_in (suc n) ((b ∷ x) ∷ l) d h =
    let e = d.0.ends (end_to_end l) in
    let rest = parted_in n l d.1 (omega (arith, length-append (b ∷ x) (end_to_end l))) in
    rw (e, take-append_seam (b ∷ x) (end_to_end l), drop-append_seam (b ∷ x) (end_to_end l), rest) refl

parted_whole : (l : List (List ℕ)) → Each Delimited l → parted (end_to_end l) ≡ l
unfolding parted
parted_whole l d = parted_in (length (end_to_end l)) l d (omega arith)

-- ---- the APDUs that are written

delimited : (t : ℕ) (c : List ℕ) → one_octet t ≡ true → length (element_octets t c) ≤ octets → Delimited (element_octets t c)
unfolding first_end
delimited t c g h = record {
  some = omega (arith, element_octets_length t c);
  ends = λ y. ap (end_by (element_octets t c ++ y)) (header_octets t c y g (omega (arith, element_octets_length t c)));
}

delimited_invoke : (i : ℕ) (l : Option ℕ) (c : Code) (v : Option (List ℕ)) → length (encode_invoke i l c v) ≤ octets → Delimited (encode_invoke i l c v)
unfolding encode_invoke one_of
delimited_invoke i l c v h = delimited 0xA1 _ refl h

delimited_result : (i : ℕ) (c : Code) (v : Option (List ℕ)) → length (encode_result i c v) ≤ octets → Delimited (encode_result i c v)
unfolding encode_result one_of
delimited_result i c v h = delimited 0xA2 _ refl h

delimited_error : (i : ℕ) (c : Code) (v : Option (List ℕ)) → length (encode_error i c v) ≤ octets → Delimited (encode_error i c v)
unfolding encode_error one_of
delimited_error i c v h = delimited 0xA3 _ refl h

delimited_reject : (i : Option ℕ) (k p : ℕ) → Delimited (encode_reject i k p)
unfolding encode_reject one_of
delimited_reject i k p = delimited 0xA4 _ refl (omega (arith, reject_most i k p))

delimited_reply : (i : ℕ) (q : Service) (n : ℕ) → Delimited (reply i (code_of_service q) n)
unfolding reply
delimited_reply i q n = delimited_result i (code_of_service q) (Some (enumerated n)) (reply_short i q n)

-- ---- each call writes such APDUs where each kept one is such

abbrev Writes : Answer → Type 0
Writes a = Each Delimited (written_by a)

refusal_writes : (r : Refusal) → Writes (refused r)
refusal_writes (plain n) = tt
refusal_writes (rejecting i kind p) = (delimited_reject i kind p, tt)

module _ (T : List ℕ) (s : Held) (k : EachKept Delimited (kept_answers s)) where
  invoked_writes : (i : ℕ) (l : Option ℕ) (c : Code) (v : Option Part) (q : Service) → Writes (invoke_done T s i l c v q)
  unfolding invoke_done acknowledged
  invoked_writes i l c v Probe = each_probed Delimited s i (linked_to (about Probe (octets_of v))) (delimited_reply i Probe) k
  invoked_writes i l c v Acknowledge = (delimited_reply i Acknowledge (cond (is_kept (linked_to (about Acknowledge (octets_of v))) (kept_answers s)) 0 1), tt)
  invoked_writes i l c v Ordinary = tt

  received_writes : (x : List ℕ) (p : Apdu) → Writes (receive_apdu T s x p)
  unfolding receive_apdu
  received_writes x (badly_structured p) = refusal_writes (fault x 2 None)
  received_writes x unrecognized = refusal_writes (fault x 0 None)
  received_writes x (mistyped i) = refusal_writes (fault x 1 i)
  received_writes x (Invoke i l c v) = settle Writes (invoke_checks T s i l c v) _ refusal_writes (λ _. invoked_writes i l (field_code c) v (service_of (field_code c)))
  received_writes x (Result i b) = settle Writes (result_checks T s i b) _ refusal_writes (λ _. tt)
  received_writes x (Error i e v) = settle Writes (error_checks T s i e v) _ refusal_writes (λ _. tt)
  received_writes x (Reject i kind p) = tt

  done_writes : (c : Call) → Pass (checks T s c) → Writes (done T s c)
  unfolding done
  done_writes (receive x room) p = received_writes x (parse x)
  done_writes (invoke i c l v room) p = (delimited_invoke i l c (non_empty v) (limits_size in_apdu (non_empty v) _ (invoke_facts T s i v room c l p).sendable.within), tt)
  done_writes (result i v room) p = (delimited_result i (code_in (peer_records s) i) (non_empty v) (limits_size in_body (non_empty v) _ (result_facts T s i v room p).sendable.within), tt)
  done_writes (error i e v room) p = (delimited_error i e (non_empty v) (limits_size in_apdu (non_empty v) _ (error_facts T s i v room e p).sendable.within), tt)
  done_writes (reject i q room) p = (delimited_reject (Some i) 0x81 q, tt)
  done_writes (forget own i) p = tt
  done_writes (forget peer i) p = tt

  call_writes : (c : Call) → Writes (perform T s c)
  unfolding perform
  call_writes c = settle Writes (checks T s c) (done T s c) refusal_writes (done_writes c)

-- ---- along the calls of one end

abbrev pub EachParted : List ℕ → Held → List Call → Type 0
EachParted T s [] = Unit {0}
EachParted T s (c ∷ l) = (parted (octets_by (perform T s c)) ≡ written_by (perform T s c)) × EachParted T (held_after s (perform T s c)) l

each_parted : (T : List ℕ) (s : Held) (l : List Call) → EachKept Delimited (kept_answers s) → EachParted T s l
each_parted T s [] k = tt
each_parted T s (c ∷ l) k =
    let w = call_writes T s k c in
    (parted_whole (written_by (perform T s c)) w, each_parted T (held_after s (perform T s c)) l (each_after Delimited T s k c w))

fresh_kept : EachKept Delimited (kept_answers fresh_held)
fresh_kept k m = absurd (in-nil (rw (view_packed [] (λ q n. absurd (in-nil n))) at m))

-- for every table and list of calls, from fresh
pub one_end_parted : (T : List ℕ) (l : List Call) → EachParted T fresh_held l
one_end_parted T l = each_parted T fresh_held l fresh_kept
