-- One end, call after call from fresh: each call is made on a sound state that its table covers, so 19 and 1 are never given.
use Rattle.std.specs.Prelude.{Option, None}
use Prim.Native.Nat.{ℕ}
use mathlib.Core.Path.{◌≡◌, refl}
use mathlib.Core.Bool.{true, false, ◌&&◌}
use mathlib.Core.List.{List, [], ◌∷◌}
use lib.ListN.{get_or}
use lib.Dec.{eqb}
use Rattle.base.proofs.Tests.{cond_elim, and_left, and_right}
use Rattle.codes.specs.declared.Code.{Code}
use Rattle.records.specs.Held.{Held, fresh_held, sound_held}
use Rattle.records.proofs.Soundness.{sound_state_lem}
use Rattle.optable.specs.Validity.{valid}
use Rattle.optable.specs.declared.Service.{Service}
use Rattle.optable.specs.declared.Service.TheVariants.{Probe, Acknowledge, Ordinary}
use Rattle.optable.specs.Service.{service_of}
use Rattle.apdu.specs.Field.{Part}
use Rattle.apdu.specs.Parse.{Apdu, badly_structured, unrecognized, mistyped, parse, invoke as Invoke, result as Result, error as Error, reject as Reject}
use Rattle.protocol.specs.Call.{own, peer, Call, receive, invoke, result, error, reject, forget, Refusal, plain, rejecting, refused, held_after}
use Rattle.protocol.specs.Check.{usable}
use Rattle.protocol.specs.Receive.{field_code, fault, invoke_checks, result_checks, error_checks, invoke_done, receive_apdu}
use Rattle.protocol.specs.Perform.{later_checks, done, perform}
use Rattle.protocol.specs.End.{gives, Fit, EachFit, OneEnd}
use Rattle.protocol.proofs.Checks.{never_given, avoids}
use Rattle.protocol.proofs.Steady.{Steady, steady_fresh, steady_sound, steady_usable, steady_step}

module _ (T : List ℕ) where
  -- no later check gives either
  early_avoided : (s : Held) (c : Call) → (avoids 19 (later_checks T s c) && avoids 1 (later_checks T s c)) ≡ true
  unfolding later_checks
  early_avoided s (receive x room) = refl
  early_avoided s (invoke i c l v room) = refl
  early_avoided s (result i v room) = refl
  early_avoided s (error i e v room) = refl
  early_avoided s (reject i p room) = refl
  early_avoided s (forget own i) = refl
  early_avoided s (forget peer i) = refl

  module _ (n : ℕ) (n17 : eqb 17 n ≡ false) (n18 : eqb 18 n ≡ false) where
    fault_gives : (x : List ℕ) (p : ℕ) (i : Option ℕ) → gives n (refused (fault x p i)) ≡ false
    unfolding fault
    fault_gives x p i = cond_elim (λ (r : Refusal). gives n (refused r) ≡ false) (eqb (get_or x 0 0) 0xA4) (plain 17) (rejecting i 0x80 p) (λ _. n17) (λ _. n18)

    invoked_gives : (s : Held) (i : ℕ) (l : Option ℕ) (c : Code) (v : Option Part) (q : Service) → gives n (invoke_done T s i l c v q) ≡ false
    unfolding invoke_done
    invoked_gives s i l c v Probe = refl
    invoked_gives s i l c v Acknowledge = refl
    invoked_gives s i l c v Ordinary = refl

    received_gives : (s : Held) (x : List ℕ) (p : Apdu) → gives n (receive_apdu T s x p) ≡ false
    unfolding receive_apdu invoke_checks result_checks error_checks
    received_gives s x (badly_structured p) = fault_gives x 2 None
    received_gives s x unrecognized = fault_gives x 0 None
    received_gives s x (mistyped i) = fault_gives x 1 i
    received_gives s x (Invoke i l c v) = never_given n (invoke_checks T s i l c v) _ (rw n18) (invoked_gives s i l (field_code c) v (service_of (field_code c)))
    received_gives s x (Result i b) = never_given n (result_checks T s i b) _ (rw n18) refl
    received_gives s x (Error i e v) = never_given n (error_checks T s i e v) _ (rw n18) refl
    received_gives s x (Reject i kind p) = refl

    done_gives : (s : Held) (c : Call) → gives n (done T s c) ≡ false
    unfolding done
    done_gives s (receive x room) = received_gives s x (parse x)
    done_gives s (invoke i c l v room) = refl
    done_gives s (result i v room) = refl
    done_gives s (error i e v room) = refl
    done_gives s (reject i p room) = refl
    done_gives s (forget own i) = refl
    done_gives s (forget peer i) = refl

    perform_gives : (s : Held) (c : Call) → sound_held s ≡ true → usable T s ≡ true → avoids n (later_checks T s c) ≡ true → gives n (perform T s c) ≡ false
    unfolding perform
    perform_gives s c h u a = rw (h, u) (never_given n (later_checks T s c) (done T s c) a (done_gives s c))

  module _ (v : valid T ≡ true) where
    fit : (s : Held) (c : Call) → Steady T s → Fit T s c
    fit s c h =
        let sound = sound_state_lem (steady_sound T h) in
        let usable' = steady_usable T v h in
        let avoid = early_avoided s c in
        record {
          sound = sound;
          covers = usable';
          not19 = perform_gives 19 refl refl s c sound usable' (and_left _ _ avoid);
          not1 = perform_gives 1 refl refl s c sound usable' (and_right (avoids 19 (later_checks T s c)) _ avoid);
        }

    each_fit : (s : Held) (l : List Call) → Steady T s → EachFit T s l
    each_fit s [] h = tt
    each_fit s (c ∷ l) h = (fit s c h, each_fit (held_after s (perform T s c)) l (steady_step T s c h))

pub one_end : OneEnd
one_end T v l = each_fit T v fresh_held l (steady_fresh T)
