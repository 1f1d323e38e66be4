-- In a valid table pairs by the places of two codes are pairs by the codes.
use Rattle.std.specs.Prelude.{Option, Some, None}
use Prim.Native.Nat.{ℕ}
use mathlib.Core.Path.{◌≡◌, refl}
use mathlib.Core.Bool.{true}
use mathlib.Core.List.{List}
use Rattle.codes.specs.declared.Code.{Code}
use Rattle.optable.specs.declared.Part.{Part}
use Rattle.optable.specs.declared.Part.TheVariants.{Operations, Errors, ErrorPairs, ChildPairs}
use Rattle.optable.specs.Read.{second_part}
use Rattle.optable.specs.Validity.{pairs, valid}
use Rattle.optable.specs.Lookup.{find, joined, paired, child_of, has_child, joined_in, paired_in, child_in, has_child_in, Holds, PlaceOf}
use Rattle.optable.proofs.ListLaws.{find_held}
use Rattle.optable.proofs.PairAnswers.{joined_answer, parent_answer}

-- the place that the definition finds is one that may be answered
found_place : (t : List ℕ) (k : Part) (c : Code) → PlaceOf t k c (find t k c)
found_place t k c = record { in_order = λ o. refl; in_any = (find t k c, (go (find t k c) refl, refl)) }
  where
    go : (p : Option ℕ) → find t k c ≡ p → Holds t k c p
    go (Some i) e = find_held t k c i e
    go None e = tt

module _ (t : List ℕ) (v : valid t ≡ true) where
  pub joined_found : (k : Part) → pairs k ≡ true → (c d : Code) → joined_in t k (find t Operations c) (find t (second_part k) d) ≡ joined t k c d
  joined_found k w c d = (joined_answer t k c d w _ _ (found_place t Operations c) (found_place t (second_part k) d) refl).in_valid v

  pub paired_found : (c e : Code) → paired_in t (find t Operations c) (find t Errors e) ≡ paired t c e
  paired_found c e = joined_found ErrorPairs refl c e

  pub child_found : (c d : Code) → child_in t (find t Operations c) (find t Operations d) ≡ child_of t c d
  child_found c d = joined_found ChildPairs refl c d

  pub parent_found : (c : Code) → has_child_in t (find t Operations c) ≡ has_child t c
  parent_found c = (parent_answer t c _ (found_place t Operations c) refl).in_valid v
