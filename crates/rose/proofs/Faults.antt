-- The place that the answer to a received APDU names is where its octets are at fault.
use Rattle.std.specs.Prelude.{Option, Some, None}
use mathlib.Core.Path.{◌≡◌, refl, sym, ap, ◌∙◌}
use mathlib.Core.Bool.{Bool, true, false, cond, not}
use mathlib.Core.List.{List}
use Prim.Native.Nat.{ℕ, ◌≤◌}
use lib.ListN.{length, get_or}
use lib.Dec.{eqb}
use borrow.Author.Tests.{ltb-false, not-true}
use Rattle.base.proofs.Tests.{cond_elim, cond_false}
use Rattle.records.specs.Held.{Held}
use Rattle.records.specs.Limits.{octets, levels}
use Rattle.ber.specs.Element.{well_formed, place}
use Rattle.ber.proofs.FaultLaws.{no_place}
use Rattle.apdu.specs.Parse.{Apdu, badly_structured, unrecognized, mistyped, invoke, result, error, reject, parse}
use Rattle.apdu.proofs.ValuePlace.{ApduStands, parse_stands}
use Rattle.protocol.specs.Call.{receive, Refusal, plain, rejecting, Answer, accepted, refused, names_place, place_named}
use Rattle.protocol.specs.Receive.{fault, receive_apdu}
use Rattle.protocol.specs.Perform.{later_checks, checks, done, perform}
use Rattle.protocol.proofs.Checks.{passed}
use Rattle.rose.specs.Faults.{fault_in}
use Rattle.rose.specs.Steps.{first}
use Rattle.rose.proofs.CheckLaws.{none_answers, some_answers, none_passes}
use Rattle.rose.proofs.Calls.{first_of}

-- no answer to octets that are right names a place
right_unnamed : (x : List ℕ) (a : Answer) → place levels x ≡ 0 → place_named x a ≡ 0
unfolding place_named
right_unnamed x (accepted i s w) e = refl
right_unnamed x (refused r) e = cond_elim (λ (n : ℕ). n ≡ 0) (names_place r) (place levels x) 0 (λ _. e) (λ _. refl)

-- general 2 and 17 do for others
structure_named : (x : List ℕ) → place_named x (refused (fault x 2 None)) ≡ place levels x
unfolding place_named fault
structure_named x =
    cond_elim (λ (r : Refusal). cond (names_place r) (place levels x) 0 ≡ place levels x) (eqb (get_or x 0 0) 0xA4) (plain 17) (rejecting None 0x80 2) (λ _. refl) (λ _. refl)

stands_fault : (x : List ℕ) (p : Apdu) → ApduStands x p → place levels x ≡ 0 → fault_in p ≡ 0
stands_fault x (badly_structured p) w e = w ∙ e
stands_fault x unrecognized w e = refl
stands_fault x (mistyped i) w e = refl
stands_fault x (invoke i l c v) w e = refl
stands_fault x (result i b) w e = refl
stands_fault x (error i c v) w e = refl
stands_fault x (reject i kind p) w e = refl

parse_wrong : (x : List ℕ) → well_formed levels x ≡ false → parse x ≡ badly_structured (place levels x)
unfolding parse
parse_wrong x q = sym (cond_false _ _ q)

pub received_place : (T : List ℕ) (s : Held) (x : List ℕ) → fault_in (parse x) ≡ place_named x (receive_apdu T s x (parse x))
unfolding receive_apdu
received_place T s x = go (well_formed levels x) refl
  where
    go : (b : Bool) → well_formed levels x ≡ b → fault_in (parse x) ≡ place_named x (receive_apdu T s x (parse x))
    go true q =
        let e = no_place levels x q in
        stands_fault x (parse x) (parse_stands x) e ∙ sym (right_unnamed x (receive_apdu T s x (parse x)) e)
    go false q = rw (parse_wrong x q) (sym (structure_named x))

-- ---- the place that a refusal names, p being where what was parsed is at fault

module _ (T : List ℕ) (s : Held) (x : List ℕ) (room : ℕ) (p : ℕ) (e : length x ≤ octets → p ≡ fault_in (parse x)) where
  named_of : (r : Refusal) → refused r ≡ perform T s (receive x room) → (f : Option Refusal) → first (checks T s (receive x room)) ≡ f → cond (names_place r) p 0 ≡ place_named x (refused r)
  unfolding place_named perform done later_checks
  named_of r a (Some q) h =
      let gives : refused q ≡ refused r = sym (some_answers (checks T s (receive x room)) (done T s (receive x room)) q h) ∙ sym a in
      let same : q ≡ r = cc in
      let unnamed : names_place r ≡ false = rw (← same) (not-true (names_place q) (first_of (λ y. not (names_place y)) (checks T s (receive x room)) q refl h)) in
      rw unnamed refl
  named_of r a None h =
      let pass = none_passes (checks T s (receive x room)) h in
      let short : length x ≤ octets = ltb-false octets (length x) (passed (checks T s (receive x room)) pass 3) in
      let done_is : refused r ≡ receive_apdu T s x (parse x) = a ∙ none_answers (checks T s (receive x room)) (done T s (receive x room)) h in
      let here : p ≡ cond (names_place r) (place levels x) 0 = e short ∙ received_place T s x ∙ ap (place_named x) (sym done_is) in
      go (names_place r) here
    where
      go : (b : Bool) → p ≡ cond b (place levels x) 0 → cond b p 0 ≡ cond b (place levels x) 0
      go true k = k
      go false k = refl

  pub refusal_place : (r : Refusal) → refused r ≡ perform T s (receive x room) → cond (names_place r) p 0 ≡ place_named x (refused r)
  refusal_place r a = named_of r a (first (checks T s (receive x room))) refl
