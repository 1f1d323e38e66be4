-- What receive writes fits the room that it was lent, for every table, state, store and APDU. What it needs is lent once 2 has passed.
use Rattle.std.specs.Prelude.{Option, None}
use Prim.Native.Nat.{ℕ, ◌+◌, ◌≤◌}
use mathlib.Core.Path.{◌≡◌, refl}
use mathlib.Core.Bool.{true, cond}
use mathlib.Core.List.{List, [], ◌∷◌, ◌++◌}
use native.Mathlib.Omega.{arith}
use lib.ListN.{length, length-append}
use borrow.Author.Tests.{not-false, ltb-false}
use Rattle.codes.specs.declared.Code.{Code}
use Rattle.base.proofs.Tests.{cond_elim}
use Rattle.records.specs.Records.{member}
use Rattle.records.specs.Kept.{is_kept, kept_apdu}
use Rattle.records.specs.Held.{Held, sound_held, kept_answers}
use Rattle.records.proofs.KeptLaws.{in_kept}
use Rattle.records.proofs.ShortLaws.{held_short}
use Rattle.optable.specs.declared.Service.{Service}
use Rattle.optable.specs.declared.Service.TheVariants.{Probe, Acknowledge, Ordinary}
use Rattle.optable.specs.Service.{probe_code, acknowledge_code, service_of}
use Rattle.optable.specs.Lookup.{room_needed}
use Rattle.optable.proofs.ServiceLaws.{service_code, room_bounds}
use Rattle.apdu.specs.Field.{Part, octets_of}
use Rattle.apdu.specs.Parse.{Apdu, badly_structured, unrecognized, mistyped, parse, invoke as Invoke, result as Result, error as Error, reject as Reject}
use Rattle.apdu.specs.Encode.{encode_reject}
use Rattle.apdu.proofs.SizeLaws.{reject_most}
use Rattle.protocol.specs.Call.{receive, Refusal, plain, rejecting, Answer, refused, end_to_end, octets_by}
use Rattle.protocol.specs.Check.{Check, answer, peer_records, linked_to}
use Rattle.protocol.specs.Service.{about, reply, probed, acknowledged}
use Rattle.protocol.specs.Receive.{field_code, fault, invoke_checks, invoke_done, result_checks, error_checks, receive_apdu}
use Rattle.protocol.specs.Perform.{later_checks, checks, done, perform}
use Rattle.protocol.proofs.Checks.{Pass, passed, settle}
use Rattle.protocol.proofs.Facts.{arrived_invoke, operation_listed}
use Rattle.protocol.proofs.Replies.{reply_most}

-- what a call writes has at most so many octets
abbrev Fits : ℕ → Answer → Type 0
Fits n a = length (octets_by a) ≤ n

-- ---- one and two APDUs

one_fits : (x : List ℕ) (n : ℕ) → length x ≤ n → length (end_to_end (x ∷ [])) ≤ n
one_fits x n h = omega (arith, length-append x [])

two_fit : (x y : List ℕ) (m n : ℕ) → length x ≤ m → length y ≤ n → length (end_to_end (x ∷ y ∷ [])) ≤ m + n
two_fit x y m n h g = omega (arith, length-append x (y ++ []), length-append y [])

-- ---- where a probe is answered: 16 octets and 512

module _ (s : Held) (sound : sound_held s ≡ true) where
  kept_fits : (j : ℕ) → is_kept j (kept_answers s) ≡ true → length (kept_apdu j (kept_answers s)) ≤ 512
  kept_fits j h = held_short s sound (record { id = j; apdu = kept_apdu j (kept_answers s) }) (in_kept j (kept_answers s) h)

  probed_fits : (i j : ℕ) → length (end_to_end (probed s i j)) ≤ 528
  unfolding probed
  probed_fits i j =
      let P : List (List ℕ) → Type 0 = λ l. length (end_to_end l) ≤ 528 in
      let alone : (n : ℕ) → P (reply i probe_code n ∷ []) = λ n. one_fits (reply i probe_code n) 528 (omega (arith, reply_most i Probe n)) in
      cond_elim P (member j (peer_records s)) (reply i probe_code 0 ∷ []) _ (λ _. alone 0)
      (λ _. cond_elim P (is_kept j (kept_answers s)) (reply i probe_code 1 ∷ kept_apdu j (kept_answers s) ∷ []) (reply i probe_code 2 ∷ [])
      (λ h. two_fit (reply i probe_code 1) (kept_apdu j (kept_answers s)) 16 512 (reply_most i Probe 1) (kept_fits j h)) (λ _. alone 2))

-- ---- what the table needs is enough

module _ (T : List ℕ) where
  refusal_fits : (r : Refusal) → Fits (room_needed T) (refused r)
  refusal_fits (plain n) = omega arith
  refusal_fits (rejecting i kind p) = one_fits (encode_reject i kind p) (room_needed T) (omega (arith, reject_most i kind p, (room_bounds T).least))

  module _ (s : Held) (sound : sound_held s ≡ true) where
    invoked_fits : (i : ℕ) (l : Option ℕ) (c : Option Code) (v : Option Part) (q : Service) → service_of (field_code c) ≡ q → Pass (invoke_checks T s i l c v) → Fits (room_needed T) (invoke_done T s i l (field_code c) v q)
    unfolding invoke_done acknowledged
    invoked_fits i l c v Probe e p =
        let known = rw (service_code (field_code c) Probe e refl) at (operation_listed T c (arrived_invoke T s i l c v p).known) in
        omega (arith, probed_fits s sound i (linked_to (about Probe (octets_of v))), (room_bounds T).with_probe known)
    invoked_fits i l c v Acknowledge e p =
        let known = rw (service_code (field_code c) Acknowledge e refl) at (operation_listed T c (arrived_invoke T s i l c v p).known) in
        let n : ℕ = cond (is_kept (linked_to (about Acknowledge (octets_of v))) (kept_answers s)) 0 1 in
        one_fits (reply i acknowledge_code n) (room_needed T) (omega (arith, reply_most i Acknowledge n, (room_bounds T).with_acknowledge known))
    invoked_fits i l c v Ordinary e p = omega arith

    received_fits : (x : List ℕ) (p : Apdu) → Fits (room_needed T) (receive_apdu T s x p)
    unfolding receive_apdu
    received_fits x (badly_structured p) = refusal_fits (fault x 2 None)
    received_fits x unrecognized = refusal_fits (fault x 0 None)
    received_fits x (mistyped i) = refusal_fits (fault x 1 i)
    received_fits x (Invoke i l c v) = settle (Fits (room_needed T)) (invoke_checks T s i l c v) _ refusal_fits (invoked_fits i l c v (service_of (field_code c)) refl)
    received_fits x (Result i b) = settle (Fits (room_needed T)) (result_checks T s i b) _ refusal_fits (λ _. omega arith)
    received_fits x (Error i e v) = settle (Fits (room_needed T)) (error_checks T s i e v) _ refusal_fits (λ _. omega arith)
    received_fits x (Reject i kind p) = omega arith

-- ---- and it was lent

-- what is done where all checks pass fits
pub answer_fits : (T : List ℕ) (s : Held) (x : List ℕ) (room : ℕ) → Pass (checks T s (receive x room)) → length (octets_by (receive_apdu T s x (parse x))) ≤ room
unfolding later_checks
answer_fits T s x room p =
    let by = passed (checks T s (receive x room)) p in
    omega (arith, ltb-false room (room_needed T) (by 2), received_fits T s (not-false (sound_held s) (by 19)) x (parse x))

-- what holds of each refusal that these checks give
abbrev EachWhy : (Answer → Type 0) → List Check → Type 0
EachWhy P [] = Unit {0}
EachWhy P (c ∷ cs) = P (refused c.why) × EachWhy P cs

settle_each : (P : Answer → Type 0) (cs : List Check) (a : Answer) → EachWhy P cs → (Pass cs → P a) → P (answer cs a)
settle_each P [] a f g = g tt
settle_each P (c ∷ cs) a f g = cond_elim P c.fails (refused c.why) (answer cs a) (λ _. f.0) (λ e. settle_each P cs a f.1 (λ p. g (e, p)))

-- and so does every answer: 19, 1, 3 and 2 write nothing
pub receive_fits : (T : List ℕ) (s : Held) (x : List ℕ) (room : ℕ) → length (octets_by (perform T s (receive x room))) ≤ room
unfolding perform later_checks done
receive_fits T s x room = settle_each (Fits room) (checks T s (receive x room)) (receive_apdu T s x (parse x)) (omega arith) (answer_fits T s x room)
