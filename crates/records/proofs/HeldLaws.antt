-- What the code makes of a sound state and its store where an answer is kept or dropped, and where a kept answer stands.
use Prim.Native.Nat.{ℕ, suc, ◌+◌, ◌*◌}
use native.Mathlib.Omega.{arith}
use mathlib.Core.Path.{◌≡◌, refl, sym, ap, ◌∙◌}
use mathlib.Core.Bool.{Bool, true, false, cond, ◌||◌}
use mathlib.Core.List.{List, [], ◌∷◌}
use lib.Dec.{eqb}
use lib.ListN.{take, drop, get_or}
use lib.Seq.{drop-drop}
use Rattle.records.specs.declared.Record.{Record}
use Rattle.records.specs.declared.Kept.{Kept}
use Rattle.records.specs.Limits.{answer_octets}
use Rattle.records.specs.Numbers.{among}
use Rattle.std.specs.Prelude.{Option, Some, None, position, is_some}
use Rattle.std.specs.Option.{option_map}
use Rattle.records.specs.declared.KeptPlace.{KeptPlace}
use Rattle.records.specs.Kept.{answer_ids, is_kept, kept_apdu, kept_without, keeping, kept_places, place_ids, no_answer, answer_place, answers_in, view_kept, pack_kept, pack_store}
use Rattle.records.specs.State.{put_kept}
use Rattle.records.specs.Held.{Held, kept_answers, keep_these, drop_answer}
use Rattle.records.specs.Steps.{kept_next, store_next, kept_less, store_less}
use Rattle.records.proofs.StoreLaws.{SoundStore}
use Rattle.records.proofs.PackedLaws.{ids_back}
use Rattle.records.proofs.DropLaws.{position_cons, kept_less_lem, store_less_lem}
use Rattle.records.proofs.KeepLaws.{kept_next_lem, store_next_lem}

module _ {peers : List Record} (s : Held) (h : SoundStore peers s.state.kept s.store) where
  -- an answer is kept
  pub held_kept : (i : ℕ) (x : List ℕ)
      → record { state = put_kept s.state (kept_next s.state.kept s.store i x); store = store_next s.state.kept s.store x } ≡ keep_these s (keeping (kept_answers s) (record { id = i; apdu = x }))
  held_kept i x =
      let kept : kept_next s.state.kept s.store i x ≡ pack_kept (keeping (kept_answers s) (record { id = i; apdu = x })) =
      (λ t. kept_next (h.packed t) (h.filled t) i x) ∙ kept_next_lem h.sound i x in
      let store : store_next s.state.kept s.store x ≡ pack_store (keeping (kept_answers s) (record { id = i; apdu = x })) =
      (λ t. store_next (h.packed t) (h.filled t) x) ∙ store_next_lem h.sound i x in
      λ t. record { state = put_kept s.state (kept t); store = store t }

  -- an answer is dropped
  pub held_dropped : (i : ℕ) → record { state = put_kept s.state (kept_less s.state.kept s.store i); store = store_less s.state.kept s.store i } ≡ drop_answer s (record { 0 = i })
  held_dropped i =
      let kept : kept_less s.state.kept s.store i ≡ pack_kept (kept_without i (kept_answers s)) = (λ t. kept_less (h.packed t) (h.filled t) i) ∙ kept_less_lem h.sound i in
      let store : store_less s.state.kept s.store i ≡ pack_store (kept_without i (kept_answers s)) = (λ t. store_less (h.packed t) (h.filled t) i) ∙ store_less_lem h.sound i in
      λ t. record { state = put_kept s.state (kept t); store = store t }

-- ---- where a kept answer stands, whatever stands in the store

pub kept_ids : (k : Kept) (store : List ℕ) → answer_ids (view_kept k store) ≡ place_ids (kept_places k)
unfolding view_kept
kept_ids k store = ids_back (kept_places k) store

-- the id has a kept answer just where it has a place
place_is : (i : ℕ) (l : List KeptPlace) → among i (place_ids l) ≡ is_some (position (λ p. eqb p.id i) l)
place_is i [] = refl
place_is i (x ∷ l) = rw (position_cons (λ p. eqb p.id i) x l) (go (eqb x.id i) (position (λ p. eqb p.id i) l) (place_is i l))
  where
    go : (b : Bool) (o : Option ℕ) → among i (place_ids l) ≡ is_some o → (b || among i (place_ids l)) ≡ is_some (cond b (Some 0) (option_map suc o))
    go true o e = refl
    go false None e = e
    go false (Some p) e = e

pub kept_has_place : (k : Kept) (store : List ℕ) (i : ℕ) → is_kept i (view_kept k store) ≡ is_some (answer_place i k)
kept_has_place k store i = rw (kept_ids k store) (place_is i (kept_places k))

answer_stands : (i p : ℕ) (l : List KeptPlace) (store : List ℕ) → position (λ p. eqb p.id i) l ≡ Some p
    → kept_apdu i (answers_in l store) ≡ take (get_or l p no_answer).length (drop (answer_octets * p) store)
answer_stands i p [] store h = absurd (let e : ⊥ = cc in e)
answer_stands i p (x ∷ l) store h =
    go (eqb x.id i) (position (λ p. eqb p.id i) l) (sym (position_cons (λ p. eqb p.id i) x l) ∙ h) (λ q. answer_stands i q l (drop answer_octets store))
  where
    go : (b : Bool) (o : Option ℕ) → cond b (Some 0) (option_map suc o) ≡ Some p
        → ((q : ℕ) → o ≡ Some q → kept_apdu i (answers_in l (drop answer_octets store)) ≡ take (get_or l q no_answer).length (drop (answer_octets * q) (drop answer_octets store)))
        → cond b (take x.length store) (kept_apdu i (answers_in l (drop answer_octets store))) ≡ take (get_or (x ∷ l) p no_answer).length (drop (answer_octets * p) store)
    go true o e ih = let z : 0 ≡ p = cc in rw (← z) refl
    go false None e ih = absurd (let z : ⊥ = cc in z)
    go false (Some q) e ih =
        let z : suc q ≡ p = cc in
        let there : answer_octets + answer_octets * q ≡ answer_octets * suc q = omega arith in
        rw (← z) (ih q refl ∙ ap (take (get_or l q no_answer).length) (drop-drop (answer_octets * q) answer_octets store ∙ ap (λ (n : ℕ). drop n store) there))

-- the octets of an answer stand in its place of the store
pub kept_stands : (k : Kept) (store : List ℕ) (i p : ℕ) → answer_place i k ≡ Some p → kept_apdu i (view_kept k store) ≡ take (get_or (kept_places k) p no_answer).length (drop (answer_octets * p) store)
unfolding view_kept
kept_stands k store i p h = answer_stands i p (kept_places k) store h
