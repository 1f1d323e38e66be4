-- What each way out of a function answers, over plain variables: the facts that led there, and the definition's value.
use Rattle.std.specs.Prelude.{Option, None}
use Prim.Native.Nat.{ℕ, suc, ◌+◌, ◌≤◌, ◌<◌}
use native.Mathlib.Omega.{arith}
use mathlib.Core.Path.{◌≡◌, refl, sym}
use mathlib.Core.Bool.{Bool, true, false, ◌&&◌}
use mathlib.Core.List.{List}
use borrow.Author.Tests.{eq-eqb, ne_eqb, lt-ltb, le-ltb}
use lib.ListN.{length}
use lib.Dec.{eqb}
use Rattle.base.proofs.Tests.{and_false_left, and_false_right}
use Rattle.base.specs.Count.{every}
use Rattle.capture.specs.declared.kind.Kind.{Kind}
use Rattle.capture.specs.Format.{count, data_offset, kind, size, offset, entry_right, data_end, placed, end_to_end}
use Rattle.capture.specs.Entry.{kind_of, entry_at, following}
use Rattle.base.proofs.CountLaws.{every_broken}

-- ---- an entry

module _ (t : List ℕ) (i : ℕ) where
  pub no_entry : count t ≤ i → record { kind = None; at = 0; end = 0 } ≡ entry_at t i
  unfolding entry_at
  no_entry h = simp (le-ltb _ _ h)

  pub is_entry : i < count t → (k : Option Kind) (a n : ℕ) → k ≡ kind_of (kind t i) → a ≡ offset t i → n ≡ a + size t i → record { kind = k; at = a; end = n } ≡ entry_at t i
  unfolding entry_at
  is_entry h k a n e f g = simp (lt-ltb _ _ h) (rw (e, g, f) refl)

  pub none_following : count t ≤ i → i ≡ following t i
  unfolding following
  none_following h = simp (le-ltb _ _ h)

  pub one_following : i < count t → i + 1 ≡ following t i
  unfolding following
  one_following h = simp (lt-ltb _ _ h)

-- ---- all entries

module _ (t : List ℕ) where
  abbrev pub right_to_the_end : Bool
  right_to_the_end = every (entry_right t) (count t) && end_to_end t

  pub data_end_none : data_offset t ≡ data_end t 0
  unfolding data_end
  data_end_none = refl

  pub data_end_more : (i : ℕ) → data_end t i + size t i ≡ data_end t (i + 1)
  unfolding data_end
  data_end_more i = let e : i + 1 ≡ suc i = omega arith in rw e

  pub entry_wrong : (i : ℕ) → i < count t → entry_right t i ≡ false → false ≡ right_to_the_end
  entry_wrong i h e = sym (and_false_left _ _ (every_broken (entry_right t) (count t) i h e))

  pub entry_misplaced : (i : ℕ) → i < count t → (offset t i ≡ data_end t i → ⊥) → false ≡ right_to_the_end
  unfolding end_to_end placed
  entry_misplaced i h e =
      sym (and_false_right (every (entry_right t) (count t)) (end_to_end t) (and_false_left _ _ (every_broken (placed t) (count t) i h (ne_eqb _ _ e))))

  pub entry_placed : (i : ℕ) → offset t i ≡ data_end t i → placed t i ≡ true
  unfolding placed
  entry_placed i e = eq-eqb _ _ e

  pub end_decides : every (entry_right t) (count t) ≡ true → every (placed t) (count t) ≡ true → eqb (data_end t (count t)) (length t) ≡ right_to_the_end
  unfolding end_to_end
  end_decides a b = simp (a, b)

  pub walk_decides : {i at : ℕ} → i ≡ count t → at ≡ data_end t i → every (entry_right t) i ≡ true → every (placed t) i ≡ true → eqb at (length t) ≡ right_to_the_end
  walk_decides e a r p = rw (a, e) (end_decides (rw e at r) (rw e at p))
