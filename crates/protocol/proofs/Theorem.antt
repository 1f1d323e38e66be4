-- What is shown was given, proved: the invariant holds at every call of the list, and what is claimed of each call follows from it.
use Rattle.std.specs.Prelude.{Some, None}
use Prim.Native.Nat.{ℕ}
use mathlib.Core.Path.{◌≡◌, refl}
use mathlib.Core.Bool.{true, false}
use mathlib.Core.List.{List, [], ◌∷◌}
use native.Mathlib.Omega.{arith}
use Rattle.records.specs.declared.Record.{Record}
use Rattle.records.specs.Held.{fresh_held}
use Rattle.records.specs.Numbers.{among, each_once}
use Rattle.records.proofs.IdLaws.{once_before}
use Rattle.records.specs.Records.{ids_of}
use Rattle.records.proofs.Laws.{ids_added}
use Rattle.optable.specs.Validity.{valid}
use Rattle.optable.specs.Lookup.{Extends}
use Rattle.protocol.specs.Call.{own, peer, Call, receive, invoke, result, error, reject, forget, Answer, accepted, refused, is_refused, indicated_by}
use Rattle.protocol.specs.Check.{Check, answer}
use Rattle.protocol.specs.Perform.{checks, done, perform}
use Rattle.protocol.specs.Book.{asking, kiosk, controller, Event, at, Given, World, begin, shown_by, after, answer_to, next, Along, final}
use Rattle.protocol.specs.ShownWasGiven.{Fair, UsesIdsOnce, Claim, ShownWasGiven}
use Rattle.protocol.proofs.Checks.{Pass, settle}
use Rattle.protocol.proofs.Steady.{steady_step}
use Rattle.protocol.proofs.Invariant.{Agrees, Inv, inv_begin}
use Rattle.protocol.proofs.Kiosk.{is_invoke, id_in, agrees_refused, agrees_kiosk}
use Rattle.protocol.proofs.Controller.{agrees_controller}
use Rattle.protocol.proofs.Showing.{shows_given}
use Rattle.protocol.proofs.Reaching.{reaches}

module _ (O N : List ℕ) where
  -- ---- that an id is used for one accepted invocation only, said of the whole list, holds before each call

  asked_before : (c : Call) (l : List Record) → each_once (ids_of (asking kiosk c l)) ≡ true → (each_once (ids_of l) ≡ true) × (is_invoke c ≡ true → among (id_in c) (ids_of l) ≡ false)
  asked_before (receive x room) l h = (h, λ q. absurd (let z : ◌≡◌ {A = ℕ} 0 1 = cc in omega arith))
  asked_before (invoke i c k v room) l h = let p = once_before (ids_of l) i (rw (ids_added (record { id = i; code = c }) l) at h) in (p.0, λ _. p.1)
  asked_before (result i v room) l h = (h, λ q. absurd (let z : ◌≡◌ {A = ℕ} 0 1 = cc in omega arith))
  asked_before (error i e v room) l h = (h, λ q. absurd (let z : ◌≡◌ {A = ℕ} 0 1 = cc in omega arith))
  asked_before (reject i p room) l h = (h, λ q. absurd (let z : ◌≡◌ {A = ℕ} 0 1 = cc in omega arith))
  asked_before (forget side i) l h = (h, λ q. absurd (let z : ◌≡◌ {A = ℕ} 0 1 = cc in omega arith))

  once_step : (w : World) (e : Event) (a : Answer) → UsesIdsOnce (after O w e a) → UsesIdsOnce w
  once_step w (at kiosk c) (accepted i s x) h = (asked_before c w.book.asked h).0
  once_step w (at kiosk c) (refused r) h = h
  once_step w (at controller c) (accepted i s x) h = h
  once_step w (at controller c) (refused r) h = h

  once_run : (l : List Event) (w : World) → UsesIdsOnce (final O N w l) → UsesIdsOnce w
  once_run [] w h = h
  once_run (e ∷ l) w h = once_step w e (answer_to O N w e) (once_run l (next O N w e) h)

  -- an accepted call's id was not asked before
  new_id : (w : World) (c : Call) (a : Answer) → is_refused a ≡ false → UsesIdsOnce (after O w (at kiosk c) a) → is_invoke c ≡ true → among (id_in c) (ids_of w.book.asked) ≡ false
  new_id w c (accepted i s x) q h = (asked_before c w.book.asked h).1
  new_id w c (refused r) q h = let z : ◌≡◌ {A = ℕ} 0 1 = cc in absurd (omega arith)

  -- ---- each call keeps the invariant

  -- a request that passes is accepted
  done_accepted : (w : World) (c : Call) → is_invoke c ≡ true → is_refused (done O w.kiosk c) ≡ false
  unfolding done
  done_accepted w (receive x room) q = absurd (let z : ◌≡◌ {A = ℕ} 0 1 = cc in omega arith)
  done_accepted w (invoke i c l v room) q = refl
  done_accepted w (result i v room) q = refl
  done_accepted w (error i e v room) q = refl
  done_accepted w (reject i p room) q = refl
  done_accepted w (forget own i) q = refl
  done_accepted w (forget peer i) q = refl

  agrees_at_kiosk : (w : World) (c : Call) (cs : List Check) (a : Answer) → UsesIdsOnce (after O w (at kiosk c) (answer cs a))
      → (Pass cs → (is_refused a ≡ false → is_invoke c ≡ true → among (id_in c) (ids_of w.book.asked) ≡ false) → Agrees N (after O w (at kiosk c) a)) → Agrees N w
      → Agrees N (after O w (at kiosk c) (answer cs a))
  agrees_at_kiosk w c cs a u f k =
      settle (λ b. UsesIdsOnce (after O w (at kiosk c) b) → Agrees N (after O w (at kiosk c) b)) cs a (λ r _. agrees_refused O N w kiosk c r k) (λ p v. f p (λ q. new_id w c a q v)) u

  step : valid N ≡ true → (w : World) (e : Event) → Fair O w e → UsesIdsOnce (next O N w e) → Inv O N w → Inv O N (next O N w e)
  unfolding answer_to perform
  step valid-N w (at kiosk c) f u inv = record {
    steady_k = steady_step O w.kiosk c inv.steady_k;
    steady_c = inv.steady_c;
    agrees = agrees_at_kiosk w c (checks O w.kiosk c) (done O w.kiosk c) u (λ p n. agrees_kiosk O N w c f.0 inv.steady_k (λ q. n (done_accepted w c q) q) inv.agrees p) inv.agrees;
  }
  step valid-N w (at controller c) f u inv = record {
    steady_k = inv.steady_k;
    steady_c = steady_step N w.controller c inv.steady_c;
    agrees =
        settle (λ a. Agrees N (after O w (at controller c) a)) (checks N w.controller c) (done N w.controller c) (λ r. agrees_refused O N w controller c r inv.agrees)
        (λ p. agrees_controller O N valid-N w c f.0 f.1 inv.steady_c inv.agrees p);
  }

  -- ---- and what is claimed of it holds

  module _ (valid-O : valid O ≡ true) (valid-N : valid N ≡ true) (extends : Extends N O) where
    -- a request indicates nothing
    silent : {A : Type 0} (cs : List Check) (s : _) (x : List (List ℕ)) (g : Given) → shown_by (indicated_by (answer cs (accepted None s x))) ≡ Some g → A
    silent {A} cs s x g h =
        settle (λ a. shown_by (indicated_by a) ≡ Some g → A) cs (accepted None s x)
        (λ _ q. let z : ◌≡◌ {A = ℕ} 0 1 = cc in absurd (omega arith)) (λ _ q. let z : ◌≡◌ {A = ℕ} 0 1 = cc in absurd (omega arith)) h

    claim : (w : World) (e : Event) → Fair O w e → Inv O N w → Claim O N w e
    unfolding answer_to perform done
    claim w (at kiosk (receive x room)) f inv = record { shows = shows_given O N w x room inv.agrees f.1; reaches = reaches O N valid-O extends w x room inv f.2 }
    claim w (at kiosk (invoke i c l v room)) f inv = record { shows = λ g h. silent (checks O w.kiosk (invoke i c l v room)) _ _ g h; reaches = tt }
    claim w (at kiosk (result i v room)) f inv = record { shows = λ g h. silent (checks O w.kiosk (result i v room)) _ _ g h; reaches = tt }
    claim w (at kiosk (error i e v room)) f inv = record { shows = λ g h. silent (checks O w.kiosk (error i e v room)) _ _ g h; reaches = tt }
    claim w (at kiosk (reject i p room)) f inv = record { shows = λ g h. silent (checks O w.kiosk (reject i p room)) _ _ g h; reaches = tt }
    claim w (at kiosk (forget own i)) f inv = record { shows = λ g h. silent (checks O w.kiosk (forget own i)) _ _ g h; reaches = tt }
    claim w (at kiosk (forget peer i)) f inv = record { shows = λ g h. silent (checks O w.kiosk (forget peer i)) _ _ g h; reaches = tt }
    claim w (at controller c) f inv = tt

    along : (l : List Event) (w : World) → Inv O N w → Along O N (Fair O) w l → UsesIdsOnce (final O N w l) → Along O N (Claim O N) w l × (each_once (final O N w l).shown ≡ true)
    along [] w inv f u = (tt, inv.agrees.ours.once)
    along (e ∷ l) w inv f u =
        let rest = along l (next O N w e) (step valid-N w e f.0 (once_run l (next O N w e) u) inv) f.1 u in
        ((claim w e f.0 inv, rest.0), rest.1)

pub shown_was_given : ShownWasGiven
shown_was_given O N valid-O valid-N extends l fair once =
    let p = along O N valid-O valid-N extends l (begin fresh_held) (inv_begin O N) fair once in
    record { each = p.0; once = p.1 }
