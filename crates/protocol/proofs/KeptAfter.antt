-- What is kept after a call, by the call and whether it was refused: 'Kept answers'. Nothing is assumed, since a call is accepted only on a sound state.
use Rattle.std.specs.Prelude.{Option, Some, None}
use Prim.Native.Nat.{ℕ}
use mathlib.Core.Path.{◌≡◌, refl, ap, ◌∙◌}
use mathlib.Core.Bool.{cond}
use mathlib.Core.List.{List}
use lib.Dec.{eqb}
use borrow.Author.Tests.{not-false}
use Rattle.base.proofs.Tests.{cond_elim}
use Rattle.base.specs.Lists.{non_empty}
use Rattle.codes.specs.declared.Code.{Code}
use Rattle.records.specs.Kept.{KeptAnswer, kept_without, keeping}
use Rattle.records.specs.Held.{Held, sound_held, kept_answers}
use Rattle.records.proofs.KeptLaws.{Short}
use Rattle.records.proofs.ShortLaws.{held_short}
use Rattle.optable.specs.declared.Service.{Service}
use Rattle.optable.specs.declared.Service.TheVariants.{Probe, Acknowledge, Ordinary}
use Rattle.optable.specs.Service.{service_of}
use Rattle.apdu.specs.Field.{Part, octets_of}
use Rattle.apdu.specs.Parse.{Apdu, badly_structured, unrecognized, mistyped, parse, invoke as Invoke, result as Result, error as Error, reject as Reject}
use Rattle.apdu.specs.Encode.{encode_error}
use Rattle.protocol.specs.Call.{own, peer, Call, receive, invoke, result, error, reject, forget, Answer, is_refused, written_by, held_after}
use Rattle.protocol.specs.Check.{code_in, peer_records, linked_to}
use Rattle.protocol.specs.Service.{about, keeps_answers}
use Rattle.protocol.specs.Receive.{field_code, invoke_checks, with_peer, invoke_done, without_own, result_checks, error_checks, receive_apdu}
use Rattle.protocol.specs.Perform.{checks, without_peer, result_apdu, done, perform}
use Rattle.protocol.proofs.Checks.{passed, settle}
use Rattle.protocol.proofs.Keeping.{Each, EachKept, each_dropped, each_kept, view_dropped, view_kept_lem}
use Rattle.protocol.proofs.Written.{kept_beside_peer, kept_beside_own}

-- ---- what an accepted call keeps of the answers, and adds to them

-- a probe drops none, an acknowledge that of the id it is about, any other Invoke that of its own id
abbrev pub kept_by_invoke : Service → ℕ → Option (List ℕ) → List KeptAnswer → List KeptAnswer
kept_by_invoke Probe i v l = l
kept_by_invoke Acknowledge i v l = kept_without (linked_to (about Acknowledge v)) l
kept_by_invoke Ordinary i v l = kept_without i l

abbrev pub kept_by_apdu : Apdu → List KeptAnswer → List KeptAnswer
kept_by_apdu (badly_structured p) l = l
kept_by_apdu unrecognized l = l
kept_by_apdu (mistyped i) l = l
kept_by_apdu (Invoke i k c v) l = kept_by_invoke (service_of (field_code c)) i (octets_of v) l
kept_by_apdu (Result i b) l = l
kept_by_apdu (Error i e v) l = l
kept_by_apdu (Reject i kind p) l = l

-- a result or an error is kept where its operation's answers are
abbrev pub kept_with : List ℕ → Held → ℕ → List ℕ → List KeptAnswer
kept_with T s i x = cond (keeps_answers T (code_in (peer_records s) i)) (keeping (kept_answers s) (record { id = i; apdu = x })) (kept_answers s)

abbrev pub kept_by : List ℕ → Held → Call → List KeptAnswer
kept_by T s (receive x room) = kept_by_apdu (parse x) (kept_answers s)
kept_by T s (invoke i c l v room) = kept_answers s
kept_by T s (result i v room) = kept_with T s i (result_apdu s i v)
kept_by T s (error i e v room) = kept_with T s i (encode_error i e (non_empty v))
kept_by T s (reject i p room) = kept_answers s
kept_by T s (forget side i) = kept_answers s

-- ---- each call does so

module _ (T : List ℕ) (s : Held) where
  -- after an answer these are kept, or those of before where it is a refusal
  abbrev Keeps : List KeptAnswer → Answer → Type 0
  Keeps l a = kept_answers (held_after s a) ≡ cond (is_refused a) (kept_answers s) l

  module _ (short : Short (kept_answers s)) where
    invoked_keeps : (i : ℕ) (l : Option ℕ) (c : Code) (v : Option Part) (q : Service) → Keeps (kept_by_invoke q i (octets_of v) (kept_answers s)) (invoke_done T s i l c v q)
    unfolding invoke_done
    invoked_keeps i l c v Probe = refl
    invoked_keeps i l c v Acknowledge = view_dropped s short (linked_to (about Acknowledge (octets_of v)))
    invoked_keeps i l c v Ordinary =
        let e = kept_beside_peer T s i c in
        view_dropped (with_peer T s i c) (rw e short) i ∙ ap (kept_without i) e

    received_keeps : (x : List ℕ) (p : Apdu) → Keeps (kept_by_apdu p (kept_answers s)) (receive_apdu T s x p)
    unfolding receive_apdu
    received_keeps x (badly_structured p) = refl
    received_keeps x unrecognized = refl
    received_keeps x (mistyped i) = refl
    received_keeps x (Invoke i l c v) =
        settle (Keeps (kept_by_invoke (service_of (field_code c)) i (octets_of v) (kept_answers s))) (invoke_checks T s i l c v) _ (λ _. refl) (λ _. invoked_keeps i l (field_code c) v (service_of (field_code c)))
    received_keeps x (Result i b) = settle (Keeps (kept_answers s)) (result_checks T s i b) _ (λ _. refl) (λ _. refl)
    received_keeps x (Error i e v) = settle (Keeps (kept_answers s)) (error_checks T s i e v) _ (λ _. refl) (λ _. refl)
    received_keeps x (Reject None kind p) = refl
    received_keeps x (Reject (Some i) kind p) = cond_elim (λ (t : Held). kept_answers t ≡ kept_answers s) (eqb kind 0x81) (without_own s i) s (λ _. refl) (λ _. refl)

    done_keeps : (c : Call) → Keeps (kept_by T s c) (done T s c)
    unfolding done
    done_keeps (receive x room) = received_keeps x (parse x)
    done_keeps (invoke i c l v room) = kept_beside_own T s i c
    done_keeps (result i v room) = view_kept_lem (without_peer s i) short (keeps_answers T (code_in (peer_records s) i)) i (result_apdu s i v)
    done_keeps (error i e v room) = view_kept_lem (without_peer s i) short (keeps_answers T (code_in (peer_records s) i)) i (encode_error i e (non_empty v))
    done_keeps (reject i p room) = refl
    done_keeps (forget own i) = refl
    done_keeps (forget peer i) = refl

  -- for every table, state, store and call
  pub kept_after : (c : Call) → kept_answers (held_after s (perform T s c)) ≡ cond (is_refused (perform T s c)) (kept_answers s) (kept_by T s c)
  unfolding perform
  kept_after c =
      settle (Keeps (kept_by T s c)) (checks T s c) (done T s c) (λ _. refl)
      (λ p. done_keeps (held_short s (not-false (sound_held s) (passed (checks T s c) p 19))) c)

-- ---- what holds of each kept APDU, and of each that a call writes, holds of each that is kept afterwards

module _ (P : List ℕ → Type 0) where
  each_invoked : {l : List KeptAnswer} (i : ℕ) (v : Option (List ℕ)) (q : Service) → EachKept P l → EachKept P (kept_by_invoke q i v l)
  each_invoked i v Probe k = k
  each_invoked i v Acknowledge k = each_dropped P (linked_to (about Acknowledge v)) k
  each_invoked i v Ordinary k = each_dropped P i k

  each_received : {l : List KeptAnswer} (p : Apdu) → EachKept P l → EachKept P (kept_by_apdu p l)
  each_received (badly_structured p) k = k
  each_received unrecognized k = k
  each_received (mistyped i) k = k
  each_received (Invoke i l c v) k = each_invoked i (octets_of v) (service_of (field_code c)) k
  each_received (Result i b) k = k
  each_received (Error i e v) k = k
  each_received (Reject i kind p) k = k

  module _ (T : List ℕ) (s : Held) (k : EachKept P (kept_answers s)) where
    abbrev Wrote : Call → Answer → Type 0
    Wrote c a = Each P (written_by a) → EachKept P (cond (is_refused a) (kept_answers s) (kept_by T s c))

    each_done : (c : Call) → Wrote c (done T s c)
    unfolding done
    each_done (receive x room) w = cond_elim (EachKept P) (is_refused (receive_apdu T s x (parse x))) (kept_answers s) (kept_by_apdu (parse x) (kept_answers s)) (λ _. k) (λ _. each_received (parse x) k)
    each_done (invoke i c l v room) w = k
    each_done (result i v room) w = each_kept P (keeps_answers T (code_in (peer_records s) i)) (record { id = i; apdu = result_apdu s i v }) w.0 k
    each_done (error i e v room) w = each_kept P (keeps_answers T (code_in (peer_records s) i)) (record { id = i; apdu = encode_error i e (non_empty v) }) w.0 k
    each_done (reject i p room) w = k
    each_done (forget own i) w = k
    each_done (forget peer i) w = k

    pub each_after : (c : Call) → Each P (written_by (perform T s c)) → EachKept P (kept_answers (held_after s (perform T s c)))
    unfolding perform
    each_after c w = rw (kept_after T s c) (settle (Wrote c) (checks T s c) (done T s c) (λ _ _. k) (λ _. each_done c) w)
