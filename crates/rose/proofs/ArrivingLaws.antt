-- A received value, where its place is read in the octets.
use Rattle.std.specs.Prelude.{Option, Some, None}
use Prim.Native.Nat.{ℕ}
use mathlib.Core.Path.{◌≡◌, refl, sym, ap, ◌∙◌}
use mathlib.Core.Bool.{Bool, true, false, not, ◌&&◌, false≢true}
use mathlib.Core.List.{List, [], ◌∷◌}
use native.Mathlib.Omega.{arith}
use lib.Dec.{eqb}
use lib.ListN.{length}
use borrow.Author.Tests.{eq-eqb, ne_eqb}
use Rattle.base.specs.Lists.{non_empty}
use Rattle.base.specs.Octets.{part}
use Rattle.optable.specs.declared.Rule.{Rule}
use Rattle.optable.specs.Value.{value_right}
use Rattle.apdu.specs.declared.Span.{Span}
use Rattle.apdu.specs.Field.{octets_of}
use Rattle.apdu.specs.Reading.{read_value}

empty_wrong : (r : Rule) (v : List ℕ) → length v ≡ 0 → false ≡ value_right r (Some v)
unfolding value_right
empty_wrong r (b ∷ v) e = absurd (omega (arith, e))
empty_wrong r [] e = go (eqb r.identifier 0) refl
  where
    go : (a : Bool) → eqb r.identifier 0 ≡ a → false ≡ (not a && eqb 0 r.identifier)
    go true q = refl
    go false q = sym (ne_eqb 0 r.identifier (λ z. false≢true (sym q ∙ eq-eqb r.identifier 0 (sym z))))

some_given : (r : Rule) (v : List ℕ) → (length v ≡ 0 → ⊥) → value_right r (non_empty v) ≡ value_right r (Some v)
unfolding non_empty
some_given r [] h = absurd (h refl)
some_given r (b ∷ v) h = refl

module _ (x : List ℕ) (r : Rule) (v : Option Span) where
  pub right_absent : (a : Bool) → v ≡ None → a ≡ value_right r (non_empty []) → a ≡ value_right r (octets_of (read_value x v))
  unfolding read_value non_empty
  right_absent a e q = q ∙ ap (λ (w : Option Span). value_right r (octets_of (read_value x w))) (sym e)

  module _ (p : Span) (e : v ≡ Some p) (w : List ℕ) (k : w ≡ part x p.at p.end) where
    here : value_right r (Some w) ≡ value_right r (octets_of (read_value x v))
    unfolding read_value
    here = ap (λ (y : List ℕ). value_right r (Some y)) k ∙ ap (λ (y : Option Span). value_right r (octets_of (read_value x y))) (sym e)

    pub right_empty : length w ≡ 0 → false ≡ value_right r (octets_of (read_value x v))
    right_empty z = empty_wrong r w z ∙ here

    pub right_octets : (length w ≡ 0 → ⊥) → (a : Bool) → a ≡ value_right r (non_empty w) → a ≡ value_right r (octets_of (read_value x v))
    right_octets z a q = q ∙ (some_given r w z ∙ here)
