-- What a value is, empty for none.
use Rattle.std.proofs.Common.{◌≡◌, ◌≤◌, ◌+◌, ◌-◌, ℕ, true, false, List, [], ◌∷◌, length, arith, sym, refl}
use mathlib.Core.Bool.{false≢true}
use Rattle.records.specs.Limits.{levels}
use Rattle.base.specs.Lists.{non_empty}
use Rattle.ber.specs.declared.element.Finding.TheVariants.{One}
use Rattle.ber.specs.Element.{well_formed, finding_in, place_in, place}
use Rattle.ber.proofs.Locality.{well_formed_more}
use Rattle.ber.proofs.FaultLaws.{finding_one, place_within}
use Rattle.protocol.specs.Check.{value_finding, value_well}

pub well_none : (d : ℕ) (v : List ℕ) → length v ≡ 0 → true ≡ value_well d (non_empty v)
unfolding value_well non_empty
well_none d [] e = refl
well_none d (b ∷ v) e = absurd (omega (arith, e))

pub well_some : (d : ℕ) (v : List ℕ) → (length v ≡ 0 → ⊥) → well_formed d v ≡ value_well d (non_empty v)
unfolding value_well non_empty
well_some d [] h = absurd (h refl)
well_some d (b ∷ v) h = refl

-- well-formed within fewer levels is one element at the full levels
pub fitting_is_one : (d : ℕ) (v : List ℕ) → d ≤ levels → value_well d (non_empty v) ≡ true → One ≡ value_finding levels (non_empty v)
unfolding value_well value_finding non_empty
fitting_is_one d [] g h = refl
fitting_is_one d (b ∷ v) g h =
    let q : d + (levels - d) ≡ levels = omega arith in
    sym (finding_one levels (b ∷ v) (rw q at (well_formed_more d (levels - d) (b ∷ v) h)))

pub wrong_is_some : (d : ℕ) (v : List ℕ) → value_well d (non_empty v) ≡ false → finding_in levels v ≡ value_finding levels (non_empty v)
unfolding value_well value_finding non_empty
wrong_is_some d [] h = absurd (false≢true (sym h))
wrong_is_some d (b ∷ v) h = refl

-- the place of no octets
pub no_octets : 0 ≡ place levels []
no_octets = omega (arith, place_within levels [])

-- the place of a value, empty for none, is that of its octets
pub value_place : (v : List ℕ) → place_in (value_finding levels (non_empty v)) ≡ place levels v
unfolding value_finding non_empty
value_place [] = no_octets
value_place (b ∷ v) = refl
