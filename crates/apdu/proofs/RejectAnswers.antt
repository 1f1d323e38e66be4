-- What each way through the code that reads a Reject answers.
use Rattle.std.specs.Prelude.{Option, Some, None}
use Prim.Native.Nat.{ℕ, ◌-◌, ◌/◌, ◌%◌, ◌<◌, ◌≤◌}
use mathlib.Core.Path.{◌≡◌, refl, sym, ap, ◌∙◌}
use mathlib.Core.Bool.{Bool, true, false, cond}
use mathlib.Core.List.{List, [], ◌∷◌}
use native.Mathlib.Omega.{arith}
use lib.ListN.{length, get_or}
use lib.Dec.{eqb, leb}
use borrow.Author.Tests.{leb-true, eqb-true, ne_eqb}
use Rattle.base.proofs.Tests.{cond_true, cond_false, and_true, and_left, and_right, and_false_left, and_false_right}
use Rattle.base.specs.Octets.{part}
use Rattle.records.specs.Limits.{levels}
use Rattle.ber.specs.Header.{constructed}
use Rattle.ber.specs.Rule.{content_rule}
use Rattle.ber.specs.Element.{well_formed}
use Rattle.ber.specs.declared.element.Frame.{Frame}
use Rattle.apdu.specs.Field.{part_of, Field}
use Rattle.apdu.specs.Parse.{mistyped, reject, number_under, is_problem, id_allowed, reject_with, reject_behind, reject_of}
use Rattle.apdu.specs.Steps.{field_at, guarded, is_number}
use Rattle.apdu.proofs.FieldLaws.{fields_none}
use Rattle.apdu.proofs.FieldHead.{Head, fields_head}
use Rattle.apdu.proofs.FieldAnswers.{field_from, none_left, all_wrong, other_field, field_listed, field_others, primitive_passed}
use Rattle.ber.proofs.RuleLaws.{constructed_not}
use Rattle.apdu.proofs.CodedAnswers.{field_number, right_passed, right_not}

-- a problem, by its kind and its contents
module _ (t : ℕ) (c : List ℕ) where
  pub problem_bounds : is_problem t c ≡ true → (0x80 ≤ t) × (t ≤ 0x83)
  unfolding is_problem
  problem_bounds e = (leb-true 0x80 t (and_left (leb 0x80 t) _ e), leb-true t 0x83 (and_left (leb t 0x83) _ (and_right (leb 0x80 t) _ e)))

-- a problem and an id that goes with it
module _ (n : Option ℕ) (t k : ℕ) (c : List ℕ) where
  -- the same id, kind and problem, said otherwise
  pub reject_is : (m : Option ℕ) (j p : ℕ) → is_problem k c ≡ true → id_allowed n t k ≡ true → m ≡ n → j ≡ k → p ≡ get_or c 0 0 → reject m j p ≡ reject_with n t k c
  unfolding reject_with
  reject_is m j p x y a b d = (λ i. reject (a i) (b i) (d i)) ∙ cond_true _ _ (and_true x y)

  pub reject_problem : is_problem k c ≡ false → mistyped None ≡ reject_with n t k c
  unfolding reject_with
  reject_problem x = cond_false _ _ (and_false_left (is_problem k c) (id_allowed n t k) x)

  pub reject_id : id_allowed n t k ≡ false → mistyped None ≡ reject_with n t k c
  unfolding reject_with
  reject_id y = cond_false _ _ (and_false_right (is_problem k c) (id_allowed n t k) y)

-- 80 to 83 are primitive identifiers without a rule
problem_kind : (k : ℕ) → (0x80 ≤ k) × (k ≤ 0x83) → (constructed k ≡ false) × ((c : List ℕ) → content_rule k c ≡ true)
unfolding constructed content_rule
problem_kind k b =
    let n : (t : ℕ) → t < 0x80 → eqb k t ≡ false = λ t h. ne_eqb k t (λ e. omega arith) in
    (ne_eqb (k / 32 % 2) 1 (omega arith), λ c. rw (n 0x01 (omega arith), n 0x02 (omega arith), n 0x0A (omega arith), n 0x05 (omega arith), n 0x06 (omega arith)) refl)

-- ---- fields that are none of a Reject's, or wrong

module _ (s : List ℕ) (at end : ℕ) (r : Option Frame) (q : r ≡ field_at s at end) where
  module _ (n : Option ℕ) (t : ℕ) where
    -- a problem under a constructed identifier is none
    no_problem : (g : Field) (fs : List Field) → constructed g.identifier ≡ true → reject_behind n t (g ∷ fs) ≡ mistyped None
    unfolding reject_behind constructed
    no_problem g [] k = sym (reject_problem n t g.identifier g.contents.octets (refused (is_problem g.identifier g.contents.octets) refl))
      where
        refused : (b : Bool) → is_problem g.identifier g.contents.octets ≡ b → b ≡ false
        refused false e = refl
        refused true e = absurd (omega (arith, problem_bounds g.identifier g.contents.octets e, eqb-true (g.identifier / 32 % 2) 1 k))
    no_problem g (h ∷ fs) k = refl

    pub behind_other : r ≡ None → mistyped None ≡ guarded (levels - 1) (mistyped None) (reject_behind n t) (part_of s at end)
    unfolding reject_behind
    behind_other w =
        all_wrong (levels - 1) s at end (mistyped None) (reject_behind n t)
        (λ c. other_field (levels - 1) s at end r q w c
        (λ h. ap (reject_behind n t) (fields_none (levels - 1) (part_of s at end) h))
        (λ h k.
        let f : Head (levels - 1) (part_of s at end) = fields_head (levels - 1) (part_of s at end) h c in
        ap (reject_behind n t) f.all ∙ no_problem f.field f.others (ap constructed f.identifier ∙ k)))

    module _ (frame : Frame) (w : r ≡ Some frame) where
      -- something follows the problem
      pub behind_more : 1 ≤ length (part s frame.stop end) → mistyped None ≡ guarded (levels - 1) (mistyped None) (reject_behind n t) (part_of s at end)
      unfolding reject_behind
      behind_more h =
          all_wrong (levels - 1) s at end (mistyped None) (reject_behind n t)
          (λ c.
          let l = field_listed (levels - 1) s at end r q frame w c in
          let f : Head (levels - 1) (part_of s frame.stop end) = fields_head (levels - 1) (part_of s frame.stop end) h (field_others (levels - 1) s at end r q frame w c) in
          ap (reject_behind n t) (l ∙ ap {B = List Field} (λ x. field_from s at frame.id frame.start frame.stop ∷ x) f.all))

      -- the problem fills what is left
      pub behind_one : length (part s frame.stop end) ≡ 0 → reject_with n t frame.id (part s frame.start frame.stop) ≡ guarded (levels - 1) (mistyped None) (reject_behind n t) (part_of s at end)
      unfolding reject_behind
      behind_one h = go (is_problem frame.id (part s frame.start frame.stop)) refl
        where
          go : (b : Bool) → is_problem frame.id (part s frame.start frame.stop) ≡ b → reject_with n t frame.id (part s frame.start frame.stop) ≡ guarded (levels - 1) (mistyped None) (reject_behind n t) (part_of s at end)
          go true x =
              let k = problem_kind frame.id (problem_bounds frame.id (part s frame.start frame.stop) x) in
              none_left (levels - 1) s frame.stop end (mistyped None) (λ fs. reject_behind n t (field_from s at frame.id frame.start frame.stop ∷ fs)) h
              ∙ primitive_passed (levels - 1) s at end r q frame w (omega arith) k.0 (k.1 (part s frame.start frame.stop)) (mistyped None) (reject_behind n t)
          go false x =
              sym (reject_problem n t frame.id (part s frame.start frame.stop) x)
              ∙ all_wrong (levels - 1) s at end (mistyped None) (reject_behind n t)
              (λ c.
              ap (reject_behind n t) (field_listed (levels - 1) s at end r q frame w c ∙ ap {B = List Field} (λ l. field_from s at frame.id frame.start frame.stop ∷ l) (fields_none (levels - 1) (part_of s frame.stop end) h))
              ∙ sym (reject_problem n t frame.id (part s frame.start frame.stop) x))

  -- what stands in the place of the id is constructed, or nothing
  pub reject_other : r ≡ None → mistyped None ≡ guarded (levels - 1) (mistyped None) reject_of (part_of s at end)
  unfolding reject_of reject_behind number_under id_allowed
  reject_other w =
      all_wrong (levels - 1) s at end (mistyped None) reject_of
      (λ c. other_field (levels - 1) s at end r q w c
      (λ h. ap reject_of (fields_none (levels - 1) (part_of s at end) h))
      (λ h k.
      let f : Head (levels - 1) (part_of s at end) = fields_head (levels - 1) (part_of s at end) h c in
      ap reject_of f.all
      ∙ no_id f.field f.others
      (λ x. constructed_not (get_or (part s at end) 0 0) 0x02 k (λ z. omega arith) (sym f.identifier ∙ x))
      (λ x. constructed_not (get_or (part s at end) 0 0) 0x05 k (λ z. omega arith) (sym f.identifier ∙ x))))
    where
      behind : (f : Field) (fs : List Field) → (f.identifier ≡ 0x05 → ⊥) → reject_behind None f.identifier fs ≡ mistyped None
      behind f [] y = refl
      behind f (g ∷ []) y = sym (reject_id None f.identifier g.identifier g.contents.octets (and_false_left (eqb f.identifier 0x05) _ (ne_eqb f.identifier 0x05 y)))
      behind f (g ∷ h ∷ fs) y = refl

      no_id : (f : Field) (fs : List Field) → (f.identifier ≡ 0x02 → ⊥) → (f.identifier ≡ 0x05 → ⊥) → reject_of (f ∷ fs) ≡ mistyped None
      no_id f fs x y = ap (λ (n : Option ℕ). reject_behind n f.identifier fs) (sym (cond_false _ None (ne_eqb f.identifier 0x02 x))) ∙ behind f fs y

  module _ (frame : Frame) (w : r ≡ Some frame) (m : Option ℕ) (c : List ℕ) (x : c ≡ part s frame.start frame.stop) (y : m ≡ number_under 0x02 frame.id c) (t : Bool) (u : List ℕ) (z : u ≡ part s at frame.stop)
      (g : t ≡ cond (is_number m) true (well_formed (levels - 1) u)) where
    pub reject_wrong : t ≡ false → mistyped None ≡ guarded (levels - 1) (mistyped None) reject_of (part_of s at end)
    reject_wrong b = right_not (levels - 1) s at end r q frame w (omega arith) m c x y t u z g b (mistyped None) reject_of

    pub reject_first : t ≡ true → guarded (levels - 1) (mistyped None) (reject_behind m frame.id) (part_of s frame.stop end) ≡ guarded (levels - 1) (mistyped None) reject_of (part_of s at end)
    unfolding reject_of
    reject_first b =
        ap (λ (k : Option ℕ). guarded (levels - 1) (mistyped None) (reject_behind k frame.id) (part_of s frame.stop end)) (field_number (levels - 1) s at end r q frame w (omega arith) m c x y t u z g)
        ∙ right_passed (levels - 1) s at end r q frame w (omega arith) m c x y t u z g b (mistyped None) reject_of
