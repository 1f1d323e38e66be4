-- In a valid capture each entry is right, and its octets stand wholly inside the data part: none is cut.
use Prim.Native.Nat.{ℕ, zero, suc, ◌+◌, ◌≤◌, ◌<◌}
use native.Mathlib.Omega.{arith}
use mathlib.Core.Path.{◌≡◌}
use mathlib.Core.Logic.{◌⊎◌, inl, inr}
use mathlib.Core.Bool.{true, ◌&&◌}
use mathlib.Core.List.{List}
use borrow.Author.Tests.{eqb-true, lt-ltb}
use lib.ListN.{length, length-take, length-drop}
use lib.Dec.{eqb, leb}
use Rattle.base.proofs.Tests.{and_left, and_right}
use Rattle.base.proofs.Numbers.{less_or_not}
use Rattle.base.specs.Count.{every}
use Rattle.capture.specs.Format.{most_octets, count, data_offset, size, offset, entry_right, headed, data_end, placed, end_to_end, valid}
use Rattle.capture.specs.Entry.{entry_at, octets_at}
use Rattle.base.proofs.CountLaws.{every_at}

-- data only rises
data_end_rises : (t : List ℕ) (i n : ℕ) → i ≤ n → data_end t i ≤ data_end t n
unfolding data_end
data_end_rises t i zero h = let e : i ≡ 0 = omega arith in rw e (omega arith)
data_end_rises t i (suc n) h = go (less_or_not n i) (λ p. data_end_rises t i n p)
  where
    go : (n < i) ⊎ (i ≤ n) → (i ≤ n → data_end t i ≤ data_end t n) → data_end t i ≤ data_end t n + size t n
    go (inl p) ih = let e : i ≡ suc n = omega arith in rw e (omega arith)
    go (inr p) ih = omega (arith, ih p)

module _ (t : List ℕ) (v : valid t ≡ true) where
  whole : (every (entry_right t) (count t) && end_to_end t) ≡ true
  unfolding valid
  whole = and_right (headed t) (every (entry_right t) (count t) && end_to_end t) (and_right (leb (length t) most_octets) _ v)

  pub each_right : (i : ℕ) → i < count t → entry_right t i ≡ true
  each_right i h = every_at (entry_right t) (count t) i (and_left (every (entry_right t) (count t)) (end_to_end t) whole) h

  ends : (every (placed t) (count t) ≡ true) × (data_end t (count t) ≡ length t)
  unfolding end_to_end
  ends =
      let e = and_right (every (entry_right t) (count t)) (end_to_end t) whole in
      let b = eqb (data_end t (count t)) (length t) in
      (and_left (every (placed t) (count t)) b e, eqb-true _ _ (and_right (every (placed t) (count t)) b e))

  stands : (i : ℕ) → i < count t → offset t i ≡ data_end t i
  unfolding placed
  stands i h = eqb-true _ _ (every_at (placed t) (count t) i ends.0 h)

  pub inside : (i : ℕ) → i < count t → (data_offset t ≤ offset t i) × (offset t i + size t i ≤ length t)
  unfolding data_end
  inside i h = (
    omega (arith, stands i h, data_end_rises t 0 i (omega arith)),
    omega (arith, stands i h, data_end_rises t (suc i) (count t) (omega arith), ends.1),
  )

  pub octets_whole : (i : ℕ) → i < count t → length (octets_at t i) ≡ size t i
  unfolding entry_at
  octets_whole i h =
      let p : offset t i + size t i ≤ length t = (inside i h).1 in
      simp (lt-ltb _ _ h, length-take, length-drop) (omega arith)
