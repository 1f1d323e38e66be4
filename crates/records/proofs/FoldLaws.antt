-- A fold over a list that is not left early finds what a search finds.
use Prim.Native.Nat.{ℕ}
use native.Mathlib.Omega.{arith}
use mathlib.Core.Path.{◌≡◌, refl, sym, ap, ◌∙◌}
use mathlib.Core.Bool.{Bool, true, false, ◌&&◌, ◌||◌, and_assoc, or_assoc, and-true}
use mathlib.Core.List.{List, [], ◌∷◌}
use lib.Dec.{eqb}
use lib.Bits.{bit_or, or_add_and, and_le_l, and_le_r}
use borrow.Author.Tests.{ne_eqb, eqb-true, eqb-false}
use Rattle.std.specs.Prelude.{fold}
use Rattle.records.specs.declared.Record.{Record}
use Rattle.records.specs.Numbers.{among, all_zero}
use Rattle.codes.specs.declared.Code.{Code}
use Rattle.codes.specs.declared.Code.TheVariants.{Local, Global}
use Rattle.codes.specs.Code.{same_code}
use Rattle.records.specs.Records.{unused, is_blank, blank, member}
use Rattle.records.specs.Steps.{used, used_in}

no : (b : Bool) → (b && false) ≡ false
no true = refl
no false = refl

or_false : (b : Bool) → (b || false) ≡ b
or_false true = refl
or_false false = refl

among_from : (i : ℕ) (b : Bool) (l : List ℕ) → fold (λ f x. f || eqb x i) b l ≡ (b || among i l)
among_from i b [] = sym (or_false b)
among_from i b (x ∷ l) = among_from i (b || eqb x i) l ∙ or_assoc b (eqb x i) (among i l)

pub fold_among : (i : ℕ) (l : List ℕ) → fold (λ f x. f || eqb x i) false l ≡ among i l
fold_among i l = among_from i false l

member_from : (i : ℕ) (b : Bool) (l : List Record) → fold (λ f r. f || eqb r.id i) b l ≡ (b || member i l)
member_from i b [] = sym (or_false b)
member_from i b (r ∷ l) = member_from i (b || eqb r.id i) l ∙ or_assoc b (eqb r.id i) (member i l)

pub fold_member : (i : ℕ) (l : List Record) → fold (λ f r. f || eqb r.id i) false l ≡ member i l
fold_member i l = member_from i false l

no_bit : (a b : ℕ) → eqb (bit_or a b) 0 ≡ (eqb a 0 && eqb b 0)
no_bit a b = go (eqb a 0) refl (eqb b 0) refl
  where
    go : (x : Bool) → eqb a 0 ≡ x → (y : Bool) → eqb b 0 ≡ y → eqb (bit_or a b) 0 ≡ (x && y)
    go true e true f = rw (eqb-true a 0 e, eqb-true b 0 f) refl
    go true e false f = ne_eqb (bit_or a b) 0 (λ z. eqb-false b 0 f (omega (arith, z, or_add_and a b, and_le_l a b)))
    go false e y f = ne_eqb (bit_or a b) 0 (λ z. eqb-false a 0 e (omega (arith, z, or_add_and a b, and_le_r a b)))

zero_from : (a : ℕ) (l : List ℕ) → eqb (fold bit_or a l) 0 ≡ (eqb a 0 && all_zero l)
zero_from a [] = sym (and-true (eqb a 0))
zero_from a (x ∷ l) = zero_from (bit_or a x) l ∙ ap (λ (b : Bool). b && all_zero l) (no_bit a x) ∙ and_assoc (eqb a 0) (eqb x 0) (all_zero l)

pub fold_zero : (l : List ℕ) → eqb (fold bit_or 0 l) 0 ≡ all_zero l
fold_zero l = zero_from 0 l

used_blank : (r : Record) → eqb (used r) 0 ≡ is_blank r
unfolding same_code
used_blank r = go r.id r.code
  where
    go : (i : ℕ) (c : Code) → eqb (used_in i c) 0 ≡ (eqb i 0 && same_code c unused.code)
    go i (Local x) = no_bit i x
    go i (Global n) = sym (no (eqb i 0))

used_from : (a : ℕ) (l : List Record) → eqb (fold (λ u r. bit_or u (used r)) a l) 0 ≡ (eqb a 0 && blank l)
used_from a [] = sym (and-true (eqb a 0))
used_from a (r ∷ l) =
    used_from (bit_or a (used r)) l ∙ ap (λ (b : Bool). b && blank l) (no_bit a (used r) ∙ ap (λ (b : Bool). eqb a 0 && b) (used_blank r)) ∙ and_assoc (eqb a 0) (is_blank r) (blank l)

pub fold_used : (l : List Record) → eqb (fold (λ u r. bit_or u (used r)) 0 l) 0 ≡ blank l
fold_used l = used_from 0 l
