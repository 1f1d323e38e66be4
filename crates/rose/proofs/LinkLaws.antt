-- What a linked id's parent says.
use Rattle.std.specs.Prelude.{Option, Some}
use Rattle.std.proofs.Common.{◌≡◌, ℕ, true, not, ◌&&◌, List, Option, Some, ap}
use Rattle.codes.specs.declared.Code.{Code}
use Rattle.records.specs.declared.Record.{Record}
use Rattle.optable.specs.declared.Part.TheVariants.{Operations, Errors}
use Rattle.optable.specs.Validity.{valid}
use Rattle.optable.specs.Lookup.{find, paired, child_of, has_child, paired_in, child_in, has_child_in}
use Rattle.optable.proofs.PlaceLaws.{paired_found, child_found, parent_found}
use Rattle.protocol.specs.Check.{code_in, is_linked, linked_to}
use Rattle.rose.specs.declared.usable.Live.{Live}
use Rattle.rose.specs.Usable.{IsParent}

module _ (T : List ℕ) (v : valid T ≡ true) (l : List Record) (n : Option ℕ) (p : Live) (h : IsParent T l n (Some p)) where
  pub childless : not (has_child_in T p.place) ≡ (is_linked n && not (has_child T (code_in l (linked_to n))))
  childless = rw (h.0, h.1.place) (ap not (parent_found T v (code_in l (linked_to n))))

  pub no_child : (q : Option ℕ) (c : Code) → q ≡ find T Operations c → not (child_in T p.place q) ≡ (is_linked n && not (child_of T (code_in l (linked_to n)) c))
  no_child q c e = rw (h.0, h.1.place, e) (ap not (child_found T v (code_in l (linked_to n)) c))

pub paired_places : (T : List ℕ) → valid T ≡ true → (p q : Option ℕ) (c e : Code) → p ≡ find T Operations c → q ≡ find T Errors e → paired_in T p q ≡ paired T c e
paired_places T v p q c e f g = rw (f, g) (paired_found T v c e)
