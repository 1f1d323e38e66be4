-- Only an accepted forget of an own record changes the ids that rest: every other call leaves them alone.
use Rattle.std.specs.Prelude.{Option, Some, None}
use Prim.Native.Nat.{ℕ}
use mathlib.Core.Path.{◌≡◌, refl}
use mathlib.Core.Bool.{Bool, true, false, cond}
use mathlib.Core.List.{List}
use lib.Dec.{eqb}
use Rattle.base.proofs.Tests.{cond_elim}
use Rattle.records.specs.declared.Resting.{Resting}
use Rattle.records.specs.Resting.{rested}
use Rattle.records.specs.State.{add_own, add_peer}
use Rattle.records.specs.Kept.{KeptAnswer}
use Rattle.records.specs.Held.{Held, in_state, keep_these}
use Rattle.codes.specs.declared.Code.{Code}
use Rattle.optable.specs.declared.Service.{Service}
use Rattle.optable.specs.declared.Service.TheVariants.{Probe, Acknowledge, Ordinary}
use Rattle.optable.specs.Service.{service_of}
use Rattle.apdu.specs.Field.{Part}
use Rattle.apdu.specs.Parse.{Apdu, badly_structured, unrecognized, mistyped, parse, invoke as Invoke, result as Result, error as Error, reject as Reject}
use Rattle.protocol.specs.Call.{own, peer, Call, receive, invoke, result, error, reject, forget, is_refused, held_after}
use Rattle.protocol.specs.Check.{is_silent, code_in, peer_records}
use Rattle.protocol.specs.Service.{keeps_answers}
use Rattle.protocol.specs.Receive.{field_code, invoke_checks, with_peer, invoke_done, without_own, result_checks, error_checks, receive_apdu}
use Rattle.protocol.specs.Perform.{checks, without_peer, done, perform}
use Rattle.protocol.proofs.Checks.{settle}

-- the ids that rest after a call, by whether it was refused
abbrev pub rested_after : Call → Bool → Resting → Resting
rested_after (forget own i) refused r = cond refused r (rested r i)
rested_after (forget peer i) refused r = r
rested_after (receive x room) refused r = r
rested_after (invoke i c l v room) refused r = r
rested_after (result i v room) refused r = r
rested_after (error i e v room) refused r = r
rested_after (reject i p room) refused r = r

-- a refused call leaves them alone
refused_alone : (c : Call) (r : Resting) → r ≡ rested_after c true r
refused_alone (forget own i) r = refl
refused_alone (forget peer i) r = refl
refused_alone (receive x room) r = refl
refused_alone (invoke i c l v room) r = refl
refused_alone (result i v room) r = refl
refused_alone (error i e v room) r = refl
refused_alone (reject i p room) r = refl

module _ (T : List ℕ) (s : Held) where
  -- a state whose resting ids are those of s
  abbrev Same : Held → Type 0
  Same t = t.state.resting ≡ s.state.resting

  peer_alone : (i : ℕ) (c : Code) → Same (with_peer T s i c)
  peer_alone i c = cond_elim Same (is_silent T c) s (in_state s (add_peer s.state (record { 0 = i }) c)) (λ _. refl) (λ _. refl)

  invoked_alone : (i : ℕ) (l : Option ℕ) (c : Code) (v : Option Part) (q : Service) → Same (held_after s (invoke_done T s i l c v q))
  unfolding invoke_done
  invoked_alone i l c v Probe = refl
  invoked_alone i l c v Acknowledge = refl
  invoked_alone i l c v Ordinary = peer_alone i c

  received_alone : (x : List ℕ) (p : Apdu) → Same (held_after s (receive_apdu T s x p))
  unfolding receive_apdu
  received_alone x (badly_structured p) = refl
  received_alone x unrecognized = refl
  received_alone x (mistyped i) = refl
  received_alone x (Invoke i l c v) =
      settle (λ a. Same (held_after s a)) (invoke_checks T s i l c v) _ (λ _. refl)
      (λ _. invoked_alone i l (field_code c) v (service_of (field_code c)))
  received_alone x (Result i b) = settle (λ a. Same (held_after s a)) (result_checks T s i b) _ (λ _. refl) (λ _. refl)
  received_alone x (Error i e v) = settle (λ a. Same (held_after s a)) (error_checks T s i e v) _ (λ _. refl) (λ _. refl)
  received_alone x (Reject None kind p) = refl
  received_alone x (Reject (Some i) kind p) = cond_elim Same (eqb kind 0x81) (without_own s i) s (λ _. refl) (λ _. refl)

  answered_alone : (b : Bool) (l : List KeptAnswer) (t : Held) → Same t → Same (cond b (keep_these t l) t)
  answered_alone true l t h = h
  answered_alone false l t h = h

  done_resting : (c : Call) → (held_after s (done T s c)).state.resting ≡ rested_after c (is_refused (done T s c)) s.state.resting
  unfolding done
  done_resting (receive x room) = received_alone x (parse x)
  done_resting (invoke i c l v room) = cond_elim Same (is_silent T c) s (in_state s (add_own s.state (record { 0 = i }) c)) (λ _. refl) (λ _. refl)
  done_resting (result i v room) = answered_alone (keeps_answers T (code_in (peer_records s) i)) _ (without_peer s i) refl
  done_resting (error i e v room) = answered_alone (keeps_answers T (code_in (peer_records s) i)) _ (without_peer s i) refl
  done_resting (reject i p room) = refl
  done_resting (forget own i) = refl
  done_resting (forget peer i) = refl

  pub resting_after : (c : Call) → (held_after s (perform T s c)).state.resting ≡ rested_after c (is_refused (perform T s c)) s.state.resting
  unfolding perform
  resting_after c =
      settle (λ a. (held_after s a).state.resting ≡ rested_after c (is_refused a) s.state.resting) (checks T s c) (done T s c) (λ _. refused_alone c s.state.resting) (λ _. done_resting c)
