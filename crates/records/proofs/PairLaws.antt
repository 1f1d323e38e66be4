-- The search over pairs of ids: a number whose flag is not set is not among those that have set theirs, and one that stands before another like it stands twice.
use Prim.Native.Nat.{ℕ, zero, suc, ◌%◌, ◌<◌}
use native.Mathlib.Omega.{arith}
use mathlib.Core.Path.{◌≡◌, refl, sym, ap, ◌∙◌}
use mathlib.Core.Bool.{Bool, true, false, not, false≢true}
use mathlib.Core.List.{List, [], ◌∷◌, ◌++◌}
use borrow.Author.Tests.{eq-eqb, ne_eqb, eqb-true, eqb-false}
use lib.Dec.{eqb}
use lib.ListN.{length, get_or, set}
use lib.Seq.{get_or-set_same, get_or-set_other}
use Rattle.base.proofs.Tests.{and_true, and_left, and_right, or_true_left, or_true_right, and_false_left, and_false_right}
use Rattle.std.specs.List.{list_all}
use Rattle.records.specs.Numbers.{among, each_once}

-- the flag of each number is set
abbrev pub marked : List Bool → List ℕ → Bool
marked fs l = list_all (λ x. get_or fs (x % 256) false) l

pub unmarked_is_absent : (fs : List Bool) (l : List ℕ) (x : ℕ) → marked fs l ≡ true → get_or fs (x % 256) false ≡ false → among x l ≡ false
unmarked_is_absent fs [] x m z = refl
unmarked_is_absent fs (y ∷ l) x m z =
    let is_set : get_or fs (y % 256) false ≡ true = and_left (get_or fs (y % 256) false) (marked fs l) m in
    let other : eqb y x ≡ false = ne_eqb y x (λ e. false≢true (sym z ∙ ap (λ (k : ℕ). get_or fs (k % 256) false) (sym e) ∙ is_set)) in
    rw other (unmarked_is_absent fs l x (and_right (get_or fs (y % 256) false) (marked fs l) m) z)

still_set : (fs : List Bool) (k j : ℕ) → k < length fs → get_or fs j false ≡ true → get_or (set fs k true) j false ≡ true
still_set fs k j p h = go (eqb j k) refl
  where
    go : (t : Bool) → eqb j k ≡ t → get_or (set fs k true) j false ≡ true
    go true e = rw (eqb-true j k e) (get_or-set_same fs k true false p)
    go false e = get_or-set_other fs k j true false (eqb-false j k e) ∙ h

pub marked_more : (fs : List Bool) (l : List ℕ) (x : ℕ) → x % 256 < length fs → marked fs l ≡ true → marked (set fs (x % 256) true) (l ++ x ∷ []) ≡ true
marked_more fs [] x p m = and_true (get_or-set_same fs (x % 256) true false p) refl
marked_more fs (y ∷ l) x p m =
    and_true (still_set fs (x % 256) (y % 256) p (and_left (get_or fs (y % 256) false) (marked fs l) m)) (marked_more fs l x p (and_right (get_or fs (y % 256) false) (marked fs l) m))

among_at : (l : List ℕ) (i : ℕ) → i < length l → among (get_or l i 0) l ≡ true
among_at [] i p = absurd (let e : ⊥ = omega arith in e)
among_at (x ∷ l) zero p = or_true_left (eqb x x) (among x l) (eq-eqb x x refl)
among_at (x ∷ l) (suc i) p = or_true_right (eqb x (get_or l i 0)) (among (get_or l i 0) l) (among_at l i (omega arith))

pub stands_twice : (l : List ℕ) (j i : ℕ) → j < i → i < length l → get_or l j 0 ≡ get_or l i 0 → each_once l ≡ false
stands_twice [] j i p q e = absurd (let z : ⊥ = omega arith in z)
stands_twice (x ∷ l) j zero p q e = absurd (let z : ⊥ = omega arith in z)
stands_twice (x ∷ l) zero (suc i) p q e =
    let twice : among x l ≡ true = rw e (among_at l i (omega arith)) in
    and_false_left (not (among x l)) (each_once l) (ap not twice)
stands_twice (x ∷ l) (suc j) (suc i) p q e = and_false_right (not (among x l)) (each_once l) (stands_twice l j i (omega arith) (omega arith) e)
