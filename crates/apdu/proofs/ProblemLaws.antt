-- A problem by its kind and number: what its identifier and contents say.
use Prim.Native.Nat.{ℕ, ◌<◌, ◌≤◌}
use mathlib.Core.Path.{◌≡◌, refl}
use mathlib.Core.Bool.{Bool, true, false, ◌&&◌}
use mathlib.Core.List.{List}
use native.Mathlib.Omega.{arith}
use lib.ListN.{length, get_or}
use lib.Dec.{eqb, leb}
use borrow.Author.Tests.{le-leb, lt-leb, eq-eqb, ne_eqb, leb-true}
use Rattle.base.proofs.Tests.{and_true, and_false_left, and_false_right}
use Rattle.apdu.specs.declared.problem.ProblemKind.{ProblemKind}
use Rattle.apdu.specs.declared.problem.ProblemKind.TheVariants.{General, Invoke, Result, Error}
use Rattle.apdu.specs.Problem.{kind_octet}
use Rattle.apdu.specs.Parse.{most_problem, is_problem}

octet_within : (k : ProblemKind) → (0x80 ≤ kind_octet k) × (kind_octet k ≤ 0x83)
octet_within General = (omega arith, omega arith)
octet_within Invoke = (omega arith, omega arith)
octet_within Result = (omega arith, omega arith)
octet_within Error = (omega arith, omega arith)

module _ (t : ℕ) (c : List ℕ) where
  pub no_kind : (0x80 ≤ t → 0x83 < t) → is_problem t c ≡ false
  unfolding is_problem
  no_kind h = go (leb 0x80 t) refl
    where
      go : (b : Bool) → leb 0x80 t ≡ b → (b && (leb t 0x83 && (eqb (length c) 1 && leb (get_or c 0 0) (most_problem t)))) ≡ false
      go false e = refl
      go true e = and_false_left (leb t 0x83) _ (lt-leb t 0x83 (h (leb-true 0x80 t e)))

  pub many_octets : (length c ≡ 1 → ⊥) → is_problem t c ≡ false
  unfolding is_problem
  many_octets h = and_false_right (leb 0x80 t) _ (and_false_right (leb t 0x83) _ (and_false_left (eqb (length c) 1) _ (ne_eqb (length c) 1 h)))

  module _ (k : ProblemKind) (e : kind_octet k ≡ t) (m : ℕ) (q : m ≡ most_problem (kind_octet k)) where
    pub high_number : m < get_or c 0 0 → is_problem t c ≡ false
    unfolding is_problem
    high_number h =
        and_false_right (leb 0x80 t) _ (and_false_right (leb t 0x83) _ (and_false_right (eqb (length c) 1) _ (rw (← e, ← q) (lt-leb (get_or c 0 0) m h))))

    pub right_number : length c ≡ 1 → get_or c 0 0 ≤ m → is_problem t c ≡ true
    unfolding is_problem
    right_number h l =
        let w = octet_within k in
        and_true (le-leb 0x80 t (omega (arith, w))) (and_true (le-leb t 0x83 (omega (arith, w))) (and_true (eq-eqb (length c) 1 h) (rw (← e, ← q) (le-leb (get_or c 0 0) m l))))
