-- What moving and putting make of the places where answers and ids stand.
use Prim.Native.Nat.{ℕ, ◌+◌, ◌-◌, ◌*◌, ◌≤◌, ◌<◌}
use native.Mathlib.Omega.{arith}
use mathlib.Core.Path.{◌≡◌, refl, sym, ap, ◌∙◌}
use mathlib.Core.Bool.{true, false}
use mathlib.Core.List.{List, [], ◌∷◌, ◌++◌, append-nil, append_assoc}
use borrow.Author.Tests.{eq-eqb, ne_eqb, le-leb, lt-leb, leb-true, leb-false}
use borrow.Rule.Slice.PartMut.{put_mid}
use lib.Dec.{leb}
use lib.ListN.{length, take, drop, get_or, set, replicate, length-append, length-take, length-drop, length-replicate, drop_of_length-le}
use lib.Seq.{drop-cons, take_all, set_at, length-take-le}
use Rattle.std.proofs.lemmas.List.{drop-replicate}
use Rattle.std.proofs.lemmas.List.Edits.{paste_all}
use Rattle.std.proofs.lemmas.Slice.{put_mid-paste}
use Rattle.base.proofs.Tests.{cond_elim, cond_true, cond_false}
use Rattle.std.specs.Prelude.{Some, None}
use Rattle.std.specs.List.{copy_within}
use Rattle.ber.specs.Output.{placed}
use Rattle.records.specs.declared.KeptPlace.{KeptPlace}
use Rattle.records.specs.declared.Kept.{Kept}
use Rattle.records.specs.Limits.{resting, answers, answer_octets, store_octets}
use Rattle.records.specs.Kept.{no_answer, answer_place}
use Rattle.records.specs.Resting.{pack_ids, staying}
use Rattle.records.specs.Steps.{closed_at, store_closed, kept_closed, kept_put, fits, kept_room, store_room, kept_next, store_next, kept_without_place, store_without_place, kept_less, store_less}
use Rattle.records.proofs.StoreLaws.{take_to}
use Rattle.records.proofs.RestingLaws.{next_place}

-- ---- a part that is written whole

put_is : {A : Type 0} (a k : ℕ) (xs ys : List A) → length ys ≡ k → put_mid a k xs ys ≡ take a xs ++ (ys ++ drop (a + k) xs)
put_is a k xs ys e = put_mid-paste a k xs ys ys k refl refl (sym e) ∙ paste_all xs a ys k (sym e)

-- ---- w elements leave from a place on, and those behind move up

module _ {A : Type 0} (w at : ℕ) (l : List A) (p : at + w ≤ length l) where
  stays_length : length (take at l ++ drop (at + w) l) ≡ length l - w
  stays_length = omega (arith, length-take-le at l (omega arith), length-append (take at l) (drop (at + w) l), length-drop (at + w) l)

  moved : copy_within l (at + w) (length l) at ≡ (take at l ++ drop (at + w) l) ++ drop (length l - w) l
  moved =
      let over : at + (length l - (at + w)) ≡ length l - w = omega arith in
      paste_all l at (drop (at + w) l) (length l - (at + w)) (sym (length-drop (at + w) l))
      ∙ ap (λ (n : ℕ). take at l ++ (drop (at + w) l ++ drop n l)) over
      ∙ sym (append_assoc (take at l) (drop (at + w) l) (drop (length l - w) l))

  moved_front : take (length l - w) (copy_within l (at + w) (length l) at) ≡ take at l ++ drop (at + w) l
  moved_front = rw moved (take_to (length l - w) (take at l ++ drop (at + w) l) (drop (length l - w) l) stays_length)

  moved_length : length (copy_within l (at + w) (length l) at) ≡ length l
  moved_length = rw moved (omega (arith, stays_length, length-append (take at l ++ drop (at + w) l) (drop (length l - w) l), length-drop (length l - w) l))

-- the octets of a place leave
pub octets_closed : (store m f : List ℕ) (place : ℕ) → length store ≡ store_octets → place < answers
    → m ≡ copy_within store (place * 512 + 512) (length store) (place * 512) → f ≡ replicate (length (take (length m - 3584) (drop 3584 m))) 0
    → put_mid 3584 (length m - 3584) m f ≡ store_closed store place
octets_closed store m f place full q e z =
    let p : place * 512 + 512 ≤ length store = omega arith in
    let n : length m ≡ 4096 = ap length e ∙ moved_length 512 (place * 512) store p ∙ full in
    let k : length (take (length m - 3584) (drop 3584 m)) ≡ 512 = omega (arith, n, length-take (length m - 3584) (drop 3584 m), length-drop 3584 m) in
    let zeros : f ≡ replicate 512 0 = z ∙ ap (λ (j : ℕ). replicate j 0) k in
    let wide : length f ≡ length m - 3584 = omega (arith, n, ap length zeros, length-replicate {A = ℕ} 512 0) in
    let none : drop (3584 + (length m - 3584)) m ≡ [] = drop_of_length-le m {i = 3584 + (length m - 3584)} (omega arith) in
    let c : length store - 512 ≡ 3584 = omega arith in
    let front : take 3584 m ≡ take (place * 512) store ++ drop (place * 512 + 512) store =
    ap (take 3584) e ∙ ap (λ (j : ℕ). take j (copy_within store (place * 512 + 512) (length store) (place * 512))) (sym c) ∙ moved_front 512 (place * 512) store p in
    let at : place * 512 ≡ answer_octets * place = omega arith in
    put_is 3584 (length m - 3584) m f wide
    ∙ (λ t. front t ++ (zeros t ++ none t))
    ∙ rw (append-nil {A = ℕ} (replicate 512 0), append_assoc, at) refl

-- the place of an answer leaves
pub place_closed : (places m : List KeptPlace) (place : ℕ) → length places ≡ answers → place < answers
    → m ≡ copy_within places (place + 1) (length places) place → set m 7 no_answer ≡ closed_at no_answer 1 place places
place_closed places m place full q e =
    let p : place + 1 ≤ length places = omega arith in
    let c : length places - 1 ≡ 7 = omega arith in
    let last : drop (length places - 1) places ≡ get_or places 7 no_answer ∷ [] =
    ap (λ (j : ℕ). drop j places) c ∙ drop-cons places 7 no_answer (omega arith) ∙ ap (λ (l : List KeptPlace). get_or places 7 no_answer ∷ l) (drop_of_length-le places {i = 8} (omega arith)) in
    let at : place ≡ 1 * place = omega arith in
    ap (λ (l : List KeptPlace). set l 7 no_answer) (e ∙ moved 1 place places p ∙ (λ t. (take place places ++ drop (place + 1) places) ++ last t))
    ∙ set_at (take place places ++ drop (place + 1) places) (get_or places 7 no_answer) [] no_answer 7 (stays_length 1 place places p ∙ c)
    ∙ append_assoc (take place places) (drop (place + 1) places) (no_answer ∷ [])
    ∙ ap (λ (j : ℕ). take j places ++ (drop (j + 1) places ++ no_answer ∷ [])) at

-- ---- an id rests

pub rested_is : (l s : List ℕ) (i : ℕ) → s ≡ l → length l < resting → set (s ++ drop (length l) (replicate 64 0)) (length l) i ≡ (pack_ids (l ++ i ∷ [])).ids
rested_is l s i e room =
    ap (λ (x : List ℕ). set x (length l) i) (λ t. e t ++ drop-replicate {X = ℕ} (length l) 64 0 t) ∙ next_place l i room

pub stay_all : (l : List ℕ) → length l < resting → l ≡ staying l
stay_all l h = cond_false _ _ (lt-leb resting (length l) h)

pub oldest_leaves : (l : List ℕ) → resting ≤ length l → take (length l - 1) (drop 1 l) ≡ staying l
oldest_leaves l h = take_all (length l - 1) (drop 1 l) (omega (arith, length-drop 1 l)) ∙ cond_true _ _ (le-leb resting (length l) h)

pub staying_room : (l : List ℕ) → length l ≤ resting → length (staying l) < resting
staying_room l h =
    cond_elim (λ (m : List ℕ). length m < resting) (leb resting (length l)) (drop 1 l) l
    (λ e. omega (arith, length-drop 1 l, leb-true resting (length l) e))
    (λ e. omega (arith, leb-false resting (length l) e))

-- ---- an answer is kept, or dropped

module _ (k : Kept) (store : List ℕ) where
  -- where there is no room it is made
  pub room_full : k.count ≡ answers → (kept_closed k 0 ≡ kept_room k) × (store_closed store 0 ≡ store_room k store)
  room_full h = let full = le-leb answers k.count (omega arith) in (cond_true _ _ full, cond_true _ _ full)

  pub room_left : k.count < answers → (k ≡ kept_room k) × (store ≡ store_room k store)
  room_left h = let few = lt-leb answers k.count h in (cond_false _ _ few, cond_false _ _ few)

module _ (k : Kept) (store : List ℕ) (i : ℕ) where
  module _ (x : List ℕ) where
    pub kept_not : fits k store x ≡ false → (k ≡ kept_next k store i x) × (store ≡ store_next k store x)
    unfolding kept_next store_next
    kept_not h = (cond_false _ _ h, cond_false _ _ h)

    -- t is what is kept when there is room, o the store then, and u the store with the octets
    pub kept_is_next : fits k store x ≡ true → (t : Kept) (o u : List ℕ) → t ≡ kept_room k → o ≡ store_room k store
        → u ≡ placed o (t.count * answer_octets) x → (kept_put t i (length x) ≡ kept_next k store i x) × (u ≡ store_next k store x)
    unfolding kept_next store_next
    kept_is_next h t o u e f g = (rw e (cond_true _ _ h), g ∙ rw (e, f) (cond_true _ _ h))

  pub less_elsewhere : (length store ≡ store_octets → ⊥) → (k ≡ kept_less k store i) × (store ≡ store_less k store i)
  unfolding kept_less store_less
  less_elsewhere h = let e = ne_eqb (length store) store_octets h in (cond_false _ _ e, cond_false _ _ e)

  pub less_none : length store ≡ store_octets → answer_place i k ≡ None → (k ≡ kept_less k store i) × (store ≡ store_less k store i)
  unfolding kept_less store_less
  less_none g n =
      let e = eq-eqb (length store) store_octets g in
      (ap (kept_without_place k) (sym n) ∙ cond_true _ _ e, ap (store_without_place store) (sym n) ∙ cond_true _ _ e)

  pub less_one : (place : ℕ) → length store ≡ store_octets → answer_place i k ≡ Some place → (kept_closed k place ≡ kept_less k store i) × (store_closed store place ≡ store_less k store i)
  unfolding kept_less store_less
  less_one place g n =
      let e = eq-eqb (length store) store_octets g in
      (ap (kept_without_place k) (sym n) ∙ cond_true _ _ e, ap (store_without_place store) (sym n) ∙ cond_true _ _ e)
