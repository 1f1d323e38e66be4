-- Contents that are elements: what their header says of the first field.
use Rattle.std.specs.Prelude.{Option, Some, None}
use Prim.Native.Nat.{ℕ, zero, suc, ◌≤◌}
use mathlib.Core.Path.{◌≡◌, refl, ap, ◌∙◌}
use mathlib.Core.Logic.{⊎_elim}
use mathlib.Core.Bool.{true}
use mathlib.Core.List.{List, [], ◌∷◌}
use native.Mathlib.Omega.{arith}
use lib.ListN.{length, get_or, take}
use Rattle.ber.specs.declared.header.Header.TheVariants.{At}
use Rattle.ber.specs.Header.{header_of}
use Rattle.ber.specs.Element.{contents_of, size}
use Rattle.ber.proofs.HeaderLaws.{header_bounds}
use Rattle.ber.proofs.ElementBounds.{element_bounds}
use Rattle.ber.proofs.ElementLaws.{First, contents_first}
use Rattle.ber.proofs.ElementFacts.{element_facts}
use Rattle.ber.proofs.Locality.{alone_well_formed}
use Rattle.ber.proofs.FrameLaws.{frame_bounds, Framed, well_formed_frame}
use Rattle.apdu.specs.Field.{Part, part_behind, Field, field_in, fields}
use Rattle.apdu.proofs.FieldLaws.{fields_cons}

-- what of the first element of contents the header at their front says
pub contents_definite : (d : ℕ) (s : List ℕ) (id a e : ℕ) → header_of s ≡ Some (At id a e) → contents_of d s ≡ true → size d s ≡ Some e
contents_definite d s id a e w q =
    let b = header_bounds s id a e w in
    let f : First d s = contents_first d s (omega arith) q in
    ⊎_elim
    (λ k. let z : f.n ≡ e = cc k.header in f.element ∙ ap {B = Option ℕ} (λ x. Some x) z)
    (λ k. let z : ◌≡◌ {A = ℕ} 0 1 = cc k.header in absurd (omega arith))
    (element_facts d s f.n f.element)

-- an element has a header
pub contents_headed : (d : ℕ) (s : List ℕ) → header_of s ≡ None → contents_of d s ≡ true → length s ≡ 0
contents_headed d [] w q = refl
contents_headed d (b ∷ s) w q =
    let f : First d (b ∷ s) = contents_first d (b ∷ s) (omega arith) q in
    ⊎_elim
    (λ k. let z : ◌≡◌ {A = ℕ} 0 1 = cc k.header in absurd (omega arith))
    (λ k. let z : ◌≡◌ {A = ℕ} 0 1 = cc k.header in absurd (omega arith))
    (element_facts d (b ∷ s) f.n f.element)

-- the first of some fields
pub record Head (d : ℕ) (p : Part) : Type 0 where
  pub field : Field
  pub others : List Field
  pub all : fields d p ≡ field ∷ others
  pub identifier : field.identifier ≡ get_or p.octets 0 0

pub fields_head : (d : ℕ) (p : Part) → 1 ≤ length p.octets → contents_of d p.octets ≡ true → Head d p
fields_head d p h q =
    let f : First d p.octets = contents_first d p.octets h q in
    let b = element_bounds d p.octets f.n f.element in
    let k : Framed (take f.n p.octets) = well_formed_frame d (take f.n p.octets) (alone_well_formed d p.octets f.n f.element) in
    record {
      field = field_in p f.n k.id k.a k.e;
      others = fields d (part_behind p f.n);
      all = fields_cons d p f.n k.id k.a k.e f.element k.frame;
      identifier = (frame_bounds (take f.n p.octets) k.id k.a k.e k.frame).first ∙ first_of_front p.octets f.n (omega arith);
    }
  where
    first_of_front : (s : List ℕ) (n : ℕ) → 1 ≤ n → get_or (take n s) 0 0 ≡ get_or s 0 0
    first_of_front [] zero o = absurd (omega arith)
    first_of_front [] (suc n) o = refl
    first_of_front (b ∷ s) zero o = absurd (omega arith)
    first_of_front (b ∷ s) (suc n) o = refl
