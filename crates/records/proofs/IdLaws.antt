-- Lists of ids: what stands among them after one is added or leaves, and two lists that share none.
use Prim.Native.Nat.{ℕ, zero, suc, ◌+◌, ◌-◌, ◌<◌}
use native.Mathlib.Omega.{arith}
use mathlib.Core.Path.{◌≡◌, refl, sym, ap, ◌∙◌}
use mathlib.Core.Bool.{Bool, true, false, cond, not, ◌&&◌, ◌||◌, false≢true}
use mathlib.Core.List.{List, [], ◌∷◌, ◌++◌}
use lib.Dec.{eqb}
use lib.ListN.{length, replicate}
use borrow.Author.Tests.{eqb-true, eqb-false, eq-eqb, ne_eqb, not-true}
use Rattle.base.proofs.Tests.{and_left, and_right, or_false_left, or_false_right}
use Rattle.std.specs.List.{list_all}
use Rattle.records.specs.declared.Record.{Record}
use Rattle.records.specs.declared.KeptPlace.{KeptPlace}
use Rattle.records.specs.Records.{ids_of, member}
use Rattle.records.specs.Kept.{place_ids}
use Rattle.records.specs.Numbers.{among, each_once, leaving, none_among, all_zero}

-- what leaves a filtered list where the test is true, and stays where it is false
pub left_out : {A : Type 0} (P : List A → Type 0) (b : Bool) (x : A) (l : List A) → (b ≡ true → P l) → (b ≡ false → P (x ∷ l)) → P (cond (not b) (x ∷ l) l)
left_out P true x l f g = f refl
left_out P false x l f g = g refl

pub never_both : (b : Bool) → b ≡ true → b ≡ false → ⊥
never_both b p q = false≢true (sym q ∙ p)

-- one place less is left behind one id more
pub one_less : (m k : ℕ) → k < m → m - k ≡ suc (m - (k + 1))
one_less m k p = omega arith

-- ---- an id is added

pub among_added : (i x : ℕ) (l : List ℕ) → among i (l ++ (x ∷ [])) ≡ (among i l || eqb x i)
among_added i x [] = go (eqb x i)
  where
    go : (b : Bool) → (b || false) ≡ b
    go true = refl
    go false = refl
among_added i x (y ∷ l) = go (eqb y i) (among_added i x l)
  where
    go : (b : Bool) → among i (l ++ (x ∷ [])) ≡ (among i l || eqb x i) → (b || among i (l ++ (x ∷ []))) ≡ ((b || among i l) || eqb x i)
    go true ih = refl
    go false ih = ih

pub once_added : (x : ℕ) (l : List ℕ) → each_once l ≡ true → among x l ≡ false → each_once (l ++ (x ∷ [])) ≡ true
once_added x [] h n = refl
once_added x (y ∷ l) h n =
    let a = not-true (among y l) (and_left _ _ h) in
    let d : eqb x y ≡ false = ne_eqb x y (λ e. eqb-false y x (or_false_left (eqb y x) (among x l) n) (sym e)) in
    rw (among_added y x l, a, d) (once_added x l (and_right (not (among y l)) _ h) (or_false_right (eqb y x) (among x l) n))

-- and back: what stands before an id that is added stands once, and the id not among it
pub once_before : (l : List ℕ) (x : ℕ) → each_once (l ++ (x ∷ [])) ≡ true → (each_once l ≡ true) × (among x l ≡ false)
once_before [] x h = (refl, refl)
once_before (y ∷ l) x h =
    let a : (among y l || eqb x y) ≡ false = rw (among_added y x l) at (not-true (among y (l ++ (x ∷ []))) (and_left _ _ h)) in
    let rest = once_before l x (and_right (not (among y (l ++ (x ∷ [])))) _ h) in
    let d : eqb y x ≡ false = ne_eqb y x (λ e. eqb-false x y (or_false_right (among y l) (eqb x y) a) (sym e)) in
    (rw (or_false_left (among y l) (eqb x y) a) rest.0, rw d rest.1)

-- ---- an id leaves

pub among_leaving : (i j : ℕ) (l : List ℕ) → among i l ≡ false → among i (leaving j l) ≡ false
among_leaving i j [] h = refl
among_leaving i j (x ∷ l) h =
    let rest = among_leaving i j l (or_false_right (eqb x i) (among i l) h) in
    left_out (λ (m : List ℕ). among i m ≡ false) (eqb x j) x (leaving j l) (λ _. rest)
    (λ _. rw (or_false_left (eqb x i) (among i l) h) rest)

pub among_left : (i : ℕ) (l : List ℕ) → among i (leaving i l) ≡ false
among_left i [] = refl
among_left i (x ∷ l) =
    let rest = among_left i l in
    left_out (λ (m : List ℕ). among i m ≡ false) (eqb x i) x (leaving i l) (λ _. rest) (λ e. rw e rest)

pub once_leaving : (i : ℕ) (l : List ℕ) → each_once l ≡ true → each_once (leaving i l) ≡ true
once_leaving i [] h = refl
once_leaving i (x ∷ l) h =
    let rest = once_leaving i l (and_right (not (among x l)) (each_once l) h) in
    left_out (λ (m : List ℕ). each_once m ≡ true) (eqb x i) x (leaving i l) (λ _. rest)
    (λ _. rw (among_leaving x i l (not-true (among x l) (and_left _ _ h))) rest)

-- ---- two lists that share none

same_either_way : (x y : ℕ) → eqb x y ≡ eqb y x
same_either_way x y = go (eqb y x) refl
  where
    go : (b : Bool) → eqb y x ≡ b → eqb x y ≡ b
    go true e = eq-eqb x y (sym (eqb-true y x e))
    go false e = ne_eqb x y (λ h. eqb-false y x e (sym h))

none_of_more : (l : List ℕ) (x : ℕ) (k : List ℕ) → none_among l (x ∷ k) ≡ (not (among x l) && none_among l k)
none_of_more [] x k = refl
none_of_more (y ∷ l) x k =
    rw (none_of_more l x k, same_either_way x y) (go (eqb y x) (among y k) (among x l))
  where
    go : (a p q : Bool) → (not (a || p) && (not q && none_among l k)) ≡ (not (a || q) && (not p && none_among l k))
    go true p q = refl
    go false true true = refl
    go false true false = refl
    go false false q = refl

none_of_none : (l : List ℕ) → none_among l [] ≡ true
none_of_none [] = refl
none_of_none (x ∷ l) = none_of_none l

pub none_either_way : (k l : List ℕ) → none_among k l ≡ none_among l k
none_either_way [] l = sym (none_of_none l)
none_either_way (x ∷ k) l = ap (λ (b : Bool). not (among x l) && b) (none_either_way k l) ∙ sym (none_of_more l x k)

-- none of these ids is a record's, where the records are looked for among them; and a place's likewise
records_among : (k : List ℕ) (l : List Record) → list_all (λ r. not (among r.id k)) l ≡ none_among (ids_of l) k
records_among k [] = refl
records_among k (r ∷ l) = ap (λ (b : Bool). not (among r.id k) && b) (records_among k l)

pub none_of_records : (k : List ℕ) (l : List Record) → list_all (λ r. not (among r.id k)) l ≡ none_among k (ids_of l)
none_of_records k l = records_among k l ∙ none_either_way (ids_of l) k

pub no_place_among : (l : List KeptPlace) (k : List Record) → list_all (λ p. not (member p.id k)) l ≡ none_among (place_ids l) (ids_of k)
no_place_among [] k = refl
no_place_among (p ∷ l) k = ap (λ (b : Bool). not (member p.id k) && b) (no_place_among l k)

-- ---- unused places

pub zero_replicate : (k : ℕ) → all_zero (replicate k 0) ≡ true
zero_replicate zero = refl
zero_replicate (suc k) = zero_replicate k

pub zero_is_replicate : (l : List ℕ) → all_zero l ≡ true → l ≡ replicate (length l) 0
zero_is_replicate [] h = refl
zero_is_replicate (x ∷ l) h = rw (eqb-true x 0 (and_left (eqb x 0) (all_zero l) h), ← (zero_is_replicate l (and_right (eqb x 0) (all_zero l) h)))
