-- Sound kept answers are their list with zeros behind each and behind all, so what a call makes of them where they stand is what it makes of the list.
use Prim.Native.Nat.{ℕ, suc, ◌-◌, ◌*◌, ◌≤◌}
use native.Mathlib.Omega.{arith}
use mathlib.Core.Path.{◌≡◌, refl, sym, ap, ◌∙◌}
use mathlib.Core.Bool.{Bool, true, false, not, false≢true, ◌||◌}
use mathlib.Core.List.{List, [], ◌∷◌, ◌++◌, append_assoc}
use lib.Dec.{eqb, leb}
use lib.ListN.{length, take, drop, replicate, length-drop, take-append-drop}
use lib.Seq.{length-take-le, take-take}
use borrow.Author.Tests.{eqb-true, leb-true, not-true}
use Rattle.base.proofs.Tests.{and_left, and_right}
use Rattle.std.specs.List.{list_all}
use Rattle.records.specs.declared.Record.{Record}
use Rattle.records.specs.declared.KeptPlace.{KeptPlace}
use Rattle.records.specs.declared.Kept.{Kept}
use Rattle.records.specs.Limits.{answers, answer_octets, store_octets}
use Rattle.records.specs.Numbers.{among, each_once, none_among, all_zero}
use Rattle.records.specs.Records.{ids_of}
use Rattle.records.specs.Kept.{KeptAnswer, answer_ids, kept_places, place_ids, no_answer, is_free, answers_in, view_kept, pack_kept, block, blocks, pack_store, all_short, clear_behind, sound_kept}
use Rattle.records.proofs.IdLaws.{zero_is_replicate}
use Rattle.records.proofs.ShortLaws.{answers_short}
use Rattle.records.proofs.StoreLaws.{SoundStore, places_for}

-- ---- what stands in the places, taken back from the list that is read of them

pub ids_back : (p : List KeptPlace) (store : List ℕ) → answer_ids (answers_in p store) ≡ place_ids p
ids_back [] store = refl
ids_back (x ∷ p) store = ap (λ (l : List ℕ). x.id ∷ l) (ids_back p (drop answer_octets store))

count_back : (p : List KeptPlace) (store : List ℕ) → length (answers_in p store) ≡ length p
count_back [] store = refl
count_back (x ∷ p) store = ap suc (count_back p (drop answer_octets store))

places_back : (p : List KeptPlace) (store : List ℕ) → all_short p ≡ true → answer_octets * length p ≤ length store → places_for (answers_in p store) ≡ p
places_back [] store h r = refl
places_back (x ∷ p) store h r =
    let few = leb-true x.length answer_octets (and_left _ _ h) in
    let m : length (take x.length store) ≡ x.length = length-take-le x.length store (omega arith) in
    let rest = places_back p (drop answer_octets store) (and_right (leb x.length answer_octets) _ h) (omega (arith, length-drop answer_octets store)) in
    λ t. record { id = x.id; length = m t } ∷ rest t

blocks_back : (p : List KeptPlace) (store : List ℕ) → all_short p ≡ true → clear_behind p store ≡ true
    → answer_octets * length p ≤ length store → store ≡ blocks (answers_in p store) ++ replicate (length store - answer_octets * length p) 0
blocks_back [] store h c r = let e : length store ≡ length store - 0 = omega arith in zero_is_replicate store c ∙ ap (λ (j : ℕ). replicate j 0) e
blocks_back (x ∷ p) store h c r =
    let few = leb-true x.length answer_octets (and_left _ _ h) in
    let whole : length (take answer_octets store) ≡ answer_octets = length-take-le answer_octets store (omega arith) in
    let m : length (take x.length store) ≡ x.length = length-take-le x.length store (omega arith) in
    let behind = drop x.length (take answer_octets store) in
    let left : length behind ≡ answer_octets - length (take x.length store) = omega (arith, length-drop x.length (take answer_octets store)) in
    let clear : behind ≡ replicate (answer_octets - length (take x.length store)) 0 = zero_is_replicate behind (and_left _ _ c) ∙ ap (λ (k : ℕ). replicate k 0) left in
    let first : take answer_octets store ≡ take x.length store ++ replicate (answer_octets - length (take x.length store)) 0 =
    sym (take-append-drop x.length (take answer_octets store)) ∙ (λ t. take-take x.length answer_octets store few t ++ clear t) in
    let rest = blocks_back p (drop answer_octets store) (and_right (leb x.length answer_octets) _ h) (and_right (all_zero behind) _ c) (omega (arith, length-drop answer_octets store)) in
    let same : length (drop answer_octets store) - answer_octets * length p ≡ length store - answer_octets * suc (length p) = omega (arith, length-drop answer_octets store) in
    let k : KeptAnswer = record { id = x.id; apdu = take x.length store } in
    let l = answers_in p (drop answer_octets store) in
    sym (take-append-drop answer_octets store) ∙ (λ t. first t ++ rest t)
    ∙ sym (append_assoc (block k) (blocks l) (replicate (length (drop answer_octets store) - answer_octets * length p) 0))
    ∙ ap (λ (j : ℕ). (block k ++ blocks l) ++ replicate j 0) same

none_of : (i : ℕ) (l k : List ℕ) → none_among l k ≡ true → among i l ≡ true → among i k ≡ false
none_of i [] k h m = absurd (false≢true m)
none_of i (x ∷ l) k h m = go (eqb x i) refl (none_of i l k (and_right (not (among x k)) _ h)) m
  where
    go : (b : Bool) → eqb x i ≡ b → (among i l ≡ true → among i k ≡ false) → (b || among i l) ≡ true → among i k ≡ false
    go true e ih m = rw (← (eqb-true x i e)) (not-true (among x k) (and_left _ _ h))
    go false e ih m = ih m

free_is_unused : (l : List KeptPlace) → list_all is_free l ≡ true → l ≡ replicate (length l) no_answer
free_is_unused [] h = refl
free_is_unused (p ∷ l) h =
    let place = and_left (is_free p) (list_all is_free l) h in
    let id = eqb-true p.id 0 (and_left (eqb p.id 0) (eqb p.length 0) place) in
    let none = eqb-true p.length 0 (and_right (eqb p.id 0) (eqb p.length 0) place) in
    let rest = free_is_unused l (and_right (is_free p) (list_all is_free l) h) in
    λ t. record { id = id t; length = none t } ∷ rest t

-- validates `pack_kept` and `pack_store`: where there are eight places, as there are in code, sound kept answers are their list with zeros behind
module _ (k : Kept) (store : List ℕ) (p : length k.places ≡ answers) (few : k.count ≤ answers) (full : length store ≡ store_octets) (short : all_short (kept_places k) ≡ true) where
  taken : length (kept_places k) ≡ k.count
  taken = length-take-le k.count k.places (omega arith)

  view_length : length (view_kept k store) ≡ k.count
  unfolding view_kept
  view_length = count_back (kept_places k) store ∙ taken

  pub kept_packed : list_all is_free (drop k.count k.places) ≡ true → k ≡ pack_kept (view_kept k store)
  unfolding view_kept pack_kept
  kept_packed z =
      let left : length (drop k.count k.places) ≡ answers - length (view_kept k store) = omega (arith, length-drop k.count k.places, view_length) in
      let behind : drop k.count k.places ≡ replicate (answers - length (view_kept k store)) no_answer =
      free_is_unused (drop k.count k.places) z ∙ ap (λ (j : ℕ). replicate j no_answer) left in
      let front : kept_places k ≡ places_for (view_kept k store) = sym (places_back (kept_places k) store short (omega (arith, taken))) in
      let all : k.places ≡ places_for (view_kept k store) ++ replicate (answers - length (view_kept k store)) no_answer =
      sym (take-append-drop k.count k.places) ∙ (λ t. front t ++ behind t) in
      λ t. record { count = sym view_length t; places = all t }

  pub store_packed : clear_behind (kept_places k) store ≡ true → store ≡ pack_store (view_kept k store)
  unfolding view_kept pack_store
  store_packed c =
      let over : length store - answer_octets * length (kept_places k) ≡ answer_octets * (answers - length (view_kept k store)) = omega (arith, view_length, taken) in
      blocks_back (kept_places k) store short c (omega (arith, taken)) ∙ ap (λ (j : ℕ). blocks (view_kept k store) ++ replicate j 0) over

-- what the test asks, taken apart
pub store_of_test : (peers : List Record) (k : Kept) (store : List ℕ) → length k.places ≡ answers → sound_kept peers k store ≡ true → SoundStore peers k store
unfolding sound_kept view_kept
store_of_test peers k store p h =
    let full = eqb-true (length store) store_octets (and_left _ _ h) in
    let h1 = and_right (eqb (length store) store_octets) _ h in
    let few = leb-true k.count answers (and_left _ _ h1) in
    let h2 = and_right (leb k.count answers) _ h1 in
    let h3 = and_right (each_once (place_ids (kept_places k))) _ h2 in
    let h4 = and_right (none_among (place_ids (kept_places k)) (ids_of peers)) _ h3 in
    let short = and_left _ _ h4 in
    let h5 = and_right (all_short (kept_places k)) _ h4 in
    let ids : answer_ids (view_kept k store) ≡ place_ids (kept_places k) = ids_back (kept_places k) store in
    record {
      sound = record {
        few = omega (arith, view_length k store p few full short);
        once = rw ids (and_left _ _ h2);
        apart = λ i m. none_of i (place_ids (kept_places k)) (ids_of peers) (and_left _ _ h3) (rw ids at m);
        short = answers_short (kept_places k) store short;
      };
      packed = kept_packed k store p few full short (and_left _ _ h5);
      filled = store_packed k store p few full short (and_right (list_all is_free (drop k.count k.places)) _ h5);
    }
