-- A kept answer leaves: closing its place in the state and in the store is taking it out of the list.
use Prim.Native.Nat.{ℕ, suc, ◌+◌, ◌-◌, ◌*◌, ◌≤◌}
use native.Mathlib.Omega.{arith}
use mathlib.Core.Path.{◌≡◌, refl, sym, ap, subst, ◌∙◌}
use mathlib.Core.Bool.{Bool, true, false, cond, not, false≢true, ◌||◌}
use mathlib.Core.List.Memᴰ.{append_left as in_left}
use mathlib.Core.List.Memᴰ.{append_right as in_right}
use mathlib.Core.List.Memᴰ.{head as here}
use mathlib.Core.List.{List, [], ◌∷◌, ◌++◌, append_assoc, append-nil}
use lib.Dec.{eqb, ltb}
use lib.ListN.{length, take, drop, replicate, length-append, replicate-append-replicate}
use borrow.Author.Tests.{eqb-true, eq-eqb, lt-ltb, not-true}
use Rattle.std.proofs.lemmas.Bool.Decides.{nat_tests}
use Rattle.base.proofs.Tests.{and_left, and_right, or_false_left, or_false_right}
use Rattle.std.specs.Prelude.{Option, Some, None, position}
use Rattle.std.specs.List.{position_or_len}
use Rattle.std.specs.Option.{option_map}
use Rattle.records.specs.declared.Record.{Record}
use Rattle.records.specs.declared.KeptPlace.{KeptPlace}
use Rattle.records.specs.Limits.{answers, answer_octets}
use Rattle.records.specs.Numbers.{each_once}
use Rattle.records.specs.Kept.{KeptAnswer, answer_ids, is_kept, kept_without, place_for, no_answer, pack_kept, block, blocks, pack_store}
use Rattle.records.specs.Steps.{closed_at, kept_closed, store_closed, kept_without_place, store_without_place, kept_less, store_less}
use Rattle.records.proofs.KeptLaws.{Short, SoundKept}
use Rattle.records.proofs.StoreLaws.{places_for, places_length, packed_places, block_length, blocks_length, store_length, take_to, drop_to}

-- ---- lists of a width: so many elements for each answer, and unused ones behind

pub more_of : {A : Type 0} (z : A) (m n k : ℕ) → m + n ≡ k → replicate m z ++ replicate n z ≡ replicate k z
more_of {A} z m n k e = replicate-append-replicate {A = A} m n z ∙ ap (λ (j : ℕ). replicate j z) e

closed_split : {A : Type 0} (z : A) (w n : ℕ) (x y t : List A) → length x ≡ w * n → length y ≡ w → closed_at z w n (x ++ (y ++ t)) ≡ x ++ (t ++ replicate w z)
closed_split z w n x y t p q =
    let front : take (w * n) (x ++ (y ++ t)) ≡ x = take_to (w * n) x (y ++ t) p in
    let both : length (x ++ y) ≡ w * n + w = length-append x y ∙ ap (λ (j : ℕ). j + length y) p ∙ ap (λ (j : ℕ). w * n + j) q in
    let back : drop (w * n + w) (x ++ (y ++ t)) ≡ t = ap (drop (w * n + w)) (sym (append_assoc x y t)) ∙ drop_to (w * n + w) (x ++ y) t both in
    λ i. front i ++ (back i ++ replicate w z)

module _ {A : Type 0} (z : A) (w : ℕ) (f : List KeptAnswer → List A) (join : (a b : List KeptAnswer) → f (a ++ b) ≡ f a ++ f b) where
  -- the place behind those of a is closed, with m unused ones behind the last
  closed_place : (a : List KeptAnswer) (k : KeptAnswer) (b : List KeptAnswer) (m n : ℕ) → length (f a) ≡ w * length a → length (f (k ∷ [])) ≡ w → m + w ≡ n
      → closed_at z w (length a) (f (a ++ k ∷ b) ++ replicate m z) ≡ f (a ++ b) ++ replicate n z
  closed_place a k b m n wide one more =
      let all : f (a ++ k ∷ b) ++ replicate m z ≡ f a ++ (f (k ∷ []) ++ (f b ++ replicate m z)) =
      ap (λ (x : List A). x ++ replicate m z) (join a (k ∷ b) ∙ ap (λ (x : List A). f a ++ x) (join (k ∷ []) b))
      ∙ append_assoc (f a) (f (k ∷ []) ++ f b) (replicate m z) ∙ ap (λ (x : List A). f a ++ x) (append_assoc (f (k ∷ [])) (f b) (replicate m z)) in
      ap (closed_at z w (length a)) all
      ∙ closed_split z w (length a) (f a) (f (k ∷ [])) (f b ++ replicate m z) wide one
      ∙ ap (λ (x : List A). f a ++ x) (append_assoc (f b) (replicate m z) (replicate w z) ∙ ap (λ (x : List A). f b ++ x) (more_of z m w n more))
      ∙ sym (append_assoc (f a) (f b) (replicate n z))
      ∙ ap (λ (x : List A). x ++ replicate n z) (sym (join a b))

pub places_append : (a b : List KeptAnswer) → places_for (a ++ b) ≡ places_for a ++ places_for b
places_append [] b = refl
places_append (k ∷ a) b = ap (λ (x : List KeptPlace). place_for k ∷ x) (places_append a b)

pub blocks_append : (a b : List KeptAnswer) → blocks (a ++ b) ≡ blocks a ++ blocks b
blocks_append [] b = refl
blocks_append (k ∷ a) b = ap (λ (x : List ℕ). block k ++ x) (blocks_append a b) ∙ sym (append_assoc (block k) (blocks a) (blocks b))

-- ---- an answer leaves

module _ (a : List KeptAnswer) (k : KeptAnswer) (b : List KeptAnswer) (few : length (a ++ k ∷ b) ≤ answers) where
  counted : length (a ++ k ∷ b) - 1 ≡ length (a ++ b)
  counted = omega (arith, length-append a (k ∷ b), length-append a b)

  fewer : (answers - length (a ++ k ∷ b)) + 1 ≡ answers - length (a ++ b)
  fewer = omega (arith, length-append a (k ∷ b), length-append a b)

  pub kept_closed_lem : kept_closed (pack_kept (a ++ k ∷ b)) (length a) ≡ pack_kept (a ++ b)
  unfolding pack_kept
  kept_closed_lem =
      let n : length (places_for a) ≡ 1 * length a = omega (arith, places_length a) in
      let all = closed_place no_answer 1 places_for places_append a k b (answers - length (a ++ k ∷ b)) (answers - length (a ++ b)) n refl fewer in
      λ t. record { count = counted t; places = all t }

  pub store_closed_lem : Short (a ++ k ∷ b) → store_closed (pack_store (a ++ k ∷ b)) (length a) ≡ pack_store (a ++ b)
  unfolding pack_store
  store_closed_lem short =
      let one : length (block k ++ []) ≡ answer_octets = ap length (append-nil (block k)) ∙ block_length k (short k (in_right a (here refl))) in
      closed_place 0 answer_octets blocks blocks_append a k b (answer_octets * (answers - length (a ++ k ∷ b))) (answer_octets * (answers - length (a ++ b)))
      (blocks_length a (λ q n. short q (in_left (k ∷ b) n))) one (omega (arith, fewer))

-- ---- the place of an answer

same_test : (m n : ℕ) → ltb (suc m) (suc n) ≡ ltb m n
same_test m n = grind (arith, nat_tests)

one_more : (n : ℕ) → 1 + n ≡ suc n
one_more n = omega arith

pub position_cons : {A : Type 0} (p : A → Bool) (x : A) (l : List A) → position p (x ∷ l) ≡ cond (p x) (Some 0) (option_map suc (position p l))
position_cons p x l = go (p x)
  where
    one : (b : Bool) → cond b (Some (suc (position_or_len p l))) None ≡ option_map suc (cond b (Some (position_or_len p l)) None)
    one true = refl
    one false = refl

    go : (b : Bool) → cond (ltb (cond (not b) (1 + position_or_len p l) 0) (suc (length l))) (Some (cond (not b) (1 + position_or_len p l) 0)) None ≡ cond b (Some 0) (option_map suc (position p l))
    go true = rw (lt-ltb 0 (suc (length l)) (omega arith)) refl
    go false = rw (one_more (position_or_len p l), same_test (position_or_len p l) (length l)) (one (ltb (position_or_len p l) (length l)))

-- the place of the id's answer
abbrev pub place_in : ℕ → List KeptAnswer → Option ℕ
place_in i l = position (λ p. eqb p.id i) (places_for l)

-- where an id that is kept stands
record Split (i : ℕ) (l : List KeptAnswer) : Type 0 where
  before : List KeptAnswer
  answer : KeptAnswer
  behind : List KeptAnswer
  whole : l ≡ before ++ answer ∷ behind
  left : kept_without i l ≡ before ++ behind
  place : place_in i l ≡ Some (length before)

kept_absent : (i : ℕ) (l : List KeptAnswer) → is_kept i l ≡ false → kept_without i l ≡ l
kept_absent i [] h = refl
kept_absent i (k ∷ l) h = rw (or_false_left (eqb k.id i) (is_kept i l) h, kept_absent i l (or_false_right (eqb k.id i) (is_kept i l) h)) refl

no_place : (i : ℕ) (l : List KeptAnswer) → is_kept i l ≡ false → place_in i l ≡ None
no_place i [] h = refl
no_place i (k ∷ l) h =
    rw (position_cons (λ p. eqb p.id i) (place_for k) (places_for l), or_false_left (eqb k.id i) (is_kept i l) h, no_place i l (or_false_right (eqb k.id i) (is_kept i l) h)) refl

split : (i : ℕ) (l : List KeptAnswer) → is_kept i l ≡ true → each_once (answer_ids l) ≡ true → Split i l
split i [] h once = absurd (false≢true h)
split i (k ∷ l) h once = go (eqb k.id i) refl h (split i l)
  where
    rest : each_once (answer_ids l) ≡ true
    rest = and_right (not (is_kept k.id l)) _ once

    alone : eqb k.id i ≡ true → is_kept i l ≡ false
    alone e = rw (← (eqb-true k.id i e)) (not-true (is_kept k.id l) (and_left _ _ once))

    go : (b : Bool) → eqb k.id i ≡ b → (b || is_kept i l) ≡ true → (is_kept i l ≡ true → each_once (answer_ids l) ≡ true → Split i l) → Split i (k ∷ l)
    go true e h ih = record { before = []; answer = k; behind = l; whole = refl; left = rw (e, kept_absent i l (alone e)) refl; place = rw (position_cons (λ p. eqb p.id i) (place_for k) (places_for l), e) refl }
    go false e h ih =
        let s = ih h rest in
        record {
          before = k ∷ s.before;
          answer = s.answer;
          behind = s.behind;
          whole = ap (λ (x : List KeptAnswer). k ∷ x) s.whole;
          left = rw e (ap (λ (x : List KeptAnswer). k ∷ x) s.left);
          place = rw (position_cons (λ p. eqb p.id i) (place_for k) (places_for l), e, s.place) refl;
        }

-- ---- what the code makes of kept answers that were put down

module _ {peers : List Record} {l : List KeptAnswer} (h : SoundKept peers l) where
  less : (i : ℕ) (b : Bool) → is_kept i l ≡ b
      → (kept_without_place (pack_kept l) (place_in i l) ≡ pack_kept (kept_without i l)) × (store_without_place (pack_store l) (place_in i l) ≡ pack_store (kept_without i l))
  less i true e =
      let s = split i l e h.once in
      let few : length (s.before ++ s.answer ∷ s.behind) ≤ answers = rw (← s.whole) h.few in
      let short : Short (s.before ++ s.answer ∷ s.behind) = subst Short s.whole h.short in (
        (λ t. kept_without_place (pack_kept (s.whole t)) (s.place t)) ∙ kept_closed_lem s.before s.answer s.behind few ∙ ap pack_kept (sym s.left),
        (λ t. store_without_place (pack_store (s.whole t)) (s.place t)) ∙ store_closed_lem s.before s.answer s.behind few short ∙ ap pack_store (sym s.left),
      )
  less i false e = rw (no_place i l e, kept_absent i l e) (refl, refl)

  pub kept_less_lem : (i : ℕ) → kept_less (pack_kept l) (pack_store l) i ≡ pack_kept (kept_without i l)
  unfolding kept_less
  kept_less_lem i = rw (eq-eqb _ _ (store_length l h.short h.few), packed_places l) (less i (is_kept i l) refl).0

  pub store_less_lem : (i : ℕ) → store_less (pack_kept l) (pack_store l) i ≡ pack_store (kept_without i l)
  unfolding store_less
  store_less_lem i = rw (eq-eqb _ _ (store_length l h.short h.few), packed_places l) (less i (is_kept i l) refl).1
