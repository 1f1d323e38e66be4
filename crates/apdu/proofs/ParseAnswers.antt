-- What each way through the code that parses answers.
use Rattle.std.specs.Prelude.{Option, Some, None}
use Prim.Native.Nat.{ℕ, ◌-◌, ◌≤◌}
use mathlib.Core.Path.{◌≡◌, refl, sym, ap, ◌∙◌}
use mathlib.Core.Bool.{Bool, true, false, cond}
use mathlib.Core.List.{List, [], ◌∷◌}
use native.Mathlib.Omega.{arith}
use lib.ListN.{length, get_or}
use borrow.Author.Tests.{eq-eqb, ne_eqb}
use Rattle.base.proofs.Tests.{cond_true, cond_false}
use Rattle.base.proofs.PartLaws.{part_part, part_length}
use Rattle.base.specs.Octets.{part}
use Rattle.records.specs.Limits.{levels}
use Rattle.ber.specs.declared.element.Frame.{Frame}
use Rattle.ber.specs.Header.{constructed}
use Rattle.ber.specs.Rule.{content_rule}
use Rattle.ber.specs.Element.{inside_of, contents_of, makes_element, well_formed, frame_of}
use Rattle.ber.proofs.HeaderLaws.{Bounds}
use Rattle.ber.proofs.FrameLaws.{framed, well_formed_framed, frame_bounds}
use Rattle.apdu.specs.Field.{Part, part_of, Field, fields}
use Rattle.apdu.specs.Parse.{Apdu, mistyped, result, number_under, uncoded, coded_of, linked_of, invoke_behind, result_with, result_behind, error_behind, behind_id, with_id}
use Rattle.apdu.specs.Steps.{field_at, frame_at, guarded, coded_in, invoke_in, id_in}
use Rattle.apdu.proofs.MovedFrame.{Found, moved_from, moved_none}
use Rattle.apdu.proofs.FieldLaws.{fields_none}
use Rattle.apdu.proofs.FieldHead.{Head, fields_head}
use Rattle.apdu.proofs.FieldAnswers.{none_left, all_wrong, whole_left, not_whole, other_field, field_listed}
use Rattle.ber.proofs.RuleLaws.{constructed_not}
use Rattle.apdu.proofs.CodedAnswers.{number_passed}

-- ---- A2: what fills the octets from a place on

result_not : (i : ℕ) (f : Field) (fs : List Field) → (f.identifier ≡ 0x30 → ⊥) → result_behind i (f ∷ fs) ≡ mistyped (Some i)
unfolding result_behind
result_not i f [] n = sym (cond_false _ _ (ne_eqb f.identifier 0x30 n))
result_not i f (g ∷ fs) n = refl

module _ (s : List ℕ) (at end i : ℕ) where
  pub result_none : length (part s at end) ≡ 0 → result i None ≡ guarded (levels - 1) (mistyped (Some i)) (result_behind i) (part_of s at end)
  unfolding result_behind
  result_none h = none_left (levels - 1) s at end (mistyped (Some i)) (result_behind i) h

  module _ (h : 1 ≤ length (part s at end)) (f : Option Frame) (q : f ≡ frame_at s at end) where
    ill_formed : well_formed (levels - 1) (part s at end) ≡ false → mistyped (Some i) ≡ guarded (levels - 1) (mistyped (Some i)) (result_behind i) (part_of s at end)
    unfolding result_behind
    ill_formed x = not_whole (levels - 1) s at end (mistyped (Some i)) (result_behind i) h x (λ f g fs. refl)

    pub result_frameless : f ≡ None → mistyped (Some i) ≡ guarded (levels - 1) (mistyped (Some i)) (result_behind i) (part_of s at end)
    unfolding frame_at
    result_frameless w =
        ill_formed (well_formed_framed 14 (part s at end) ∙ ap (framed 14 (part s at end)) (moved_none at (frame_of (part s at end)) (sym q ∙ w)))

    module _ (frame : Frame) (w : f ≡ Some frame) where
      inner : Found at (frame_of (part s at end)) frame.id frame.start frame.stop
      unfolding frame_at
      inner = moved_from at (frame_of (part s at end)) frame.id frame.start frame.stop (sym q ∙ w)

      bounds : Bounds (part s at end) frame.id inner.start inner.stop
      bounds = frame_bounds (part s at end) frame.id inner.start inner.stop inner.found

      pub result_other : (frame.id ≡ 0x30 → ⊥) → mistyped (Some i) ≡ guarded (levels - 1) (mistyped (Some i)) (result_behind i) (part_of s at end)
      result_other n =
          all_wrong (levels - 1) s at end (mistyped (Some i)) (result_behind i)
          (λ c.
          let k : Head (levels - 1) (part_of s at end) = fields_head (levels - 1) (part_of s at end) h c in
          ap (result_behind i) k.all ∙ result_not i k.field k.others (λ x. n (bounds.first ∙ sym k.identifier ∙ x)))

      within : part (part s at end) inner.start inner.stop ≡ part s frame.start frame.stop
      within = part_part s at end inner.start inner.stop (omega (arith, bounds, part_length s at end)) ∙ (λ j. part s (inner.starts j) (inner.ends j))

      -- 30 makes an element of elements
      whole : frame.id ≡ 0x30 → well_formed (levels - 1) (part s at end) ≡ contents_of (levels - 2) (part s frame.start frame.stop)
      unfolding constructed content_rule
      whole t =
          well_formed_framed 14 (part s at end) ∙ ap (framed 14 (part s at end)) inner.found
          ∙ ap (λ (c : List ℕ). makes_element (inside_of 14) frame.id c) within ∙ rw t refl

      pub result_body : frame.id ≡ 0x30 → result_with i (coded_in (levels - 2) (part_of s frame.start frame.stop)) ≡ guarded (levels - 1) (mistyped (Some i)) (result_behind i) (part_of s at end)
      unfolding result_with result_behind
      result_body t = go (contents_of (levels - 2) (part s frame.start frame.stop)) refl
        where
          go : (b : Bool) → contents_of (levels - 2) (part s frame.start frame.stop) ≡ b → result_with i (cond b (coded_of (fields (levels - 2) (part_of s frame.start frame.stop))) uncoded) ≡ guarded (levels - 1) (mistyped (Some i)) (result_behind i) (part_of s at end)
          go true c =
              sym (λ j. result_with i (coded_of (fields (levels - 2) (part_of s (inner.starts j) (inner.ends j)))))
              ∙ cond_true _ (mistyped (Some i)) (eq-eqb frame.id 0x30 t)
              ∙ whole_left (levels - 1) s at end (mistyped (Some i)) (result_behind i) (whole t ∙ c) frame.id inner.start inner.stop inner.found
          go false c = ill_formed (whole t ∙ c)

-- ---- A1 to A3 behind what should be their id

error_pushed : (i : ℕ) (p : Part) → error_behind i (coded_in (levels - 1) p) ≡ guarded (levels - 1) (mistyped (Some i)) (λ fs. error_behind i (coded_of fs)) p
unfolding error_behind
error_pushed i p = go (contents_of (levels - 1) p.octets)
  where
    go : (b : Bool) → error_behind i (cond b (coded_of (fields (levels - 1) p)) uncoded) ≡ cond b (error_behind i (coded_of (fields (levels - 1) p))) (mistyped (Some i))
    go true = refl
    go false = refl

module _ (t i : ℕ) (n : Option ℕ) (p : Part) (w : n ≡ Some i) where
  by_id : (F : List Field → Apdu) → F (fields (levels - 1) p) ≡ behind_id t (Some i) (fields (levels - 1) p) → guarded (levels - 1) (mistyped (Some i)) F p ≡ guarded (levels - 1) (mistyped n) (behind_id t n) p
  by_id F e =
      ap (λ (a : Apdu). cond (contents_of (levels - 1) p.octets) a (mistyped (Some i))) e ∙ ap (λ (m : Option ℕ). guarded (levels - 1) (mistyped m) (behind_id t m) p) (sym w)

  pub behind_invoke : t ≡ 0xA1 → invoke_in i p ≡ guarded (levels - 1) (mistyped n) (behind_id t n) p
  unfolding behind_id
  behind_invoke e = by_id (λ fs. invoke_behind i (linked_of fs)) (cond_true _ _ (eq-eqb t 0xA1 e))

  pub behind_result : (t ≡ 0xA1 → ⊥) → t ≡ 0xA2 → guarded (levels - 1) (mistyped (Some i)) (result_behind i) p ≡ guarded (levels - 1) (mistyped n) (behind_id t n) p
  unfolding behind_id
  behind_result x e = by_id (result_behind i) (cond_true _ _ (eq-eqb t 0xA2 e) ∙ cond_false _ _ (ne_eqb t 0xA1 x))

  pub behind_error : (t ≡ 0xA1 → ⊥) → (t ≡ 0xA2 → ⊥) → error_behind i (coded_in (levels - 1) p) ≡ guarded (levels - 1) (mistyped n) (behind_id t n) p
  unfolding behind_id
  behind_error x y = error_pushed i p ∙ by_id (λ fs. error_behind i (coded_of fs)) (cond_false _ _ (ne_eqb t 0xA2 y) ∙ cond_false _ _ (ne_eqb t 0xA1 x))

pub behind_no_id : (t : ℕ) (n : Option ℕ) (p : Part) → n ≡ None → mistyped None ≡ guarded (levels - 1) (mistyped n) (behind_id t n) p
unfolding behind_id
behind_no_id t n p w = go (contents_of (levels - 1) p.octets) ∙ ap (λ (m : Option ℕ). guarded (levels - 1) (mistyped m) (behind_id t m) p) (sym w)
  where
    go : (b : Bool) → mistyped None ≡ cond b (mistyped None) (mistyped None)
    go true = refl
    go false = refl

-- ---- what should be the id, and what is behind it

module _ (s : List ℕ) (at end : ℕ) (r : Option Frame) (q : r ≡ field_at s at end) (t : ℕ) where
  wrong_id : id_in s (field_at s at end) ≡ None → (contents_of (levels - 1) (part s at end) ≡ true → with_id t (fields (levels - 1) (part_of s at end)) ≡ mistyped None)
      → mistyped None ≡ guarded (levels - 1) (mistyped (id_in s (field_at s at end))) (with_id t) (part_of s at end)
  wrong_id e x =
      all_wrong (levels - 1) s at end (mistyped None) (with_id t) x ∙ ap (λ (m : Option ℕ). guarded (levels - 1) (mistyped m) (with_id t) (part_of s at end)) (sym e)

  pub id_other : r ≡ None → mistyped None ≡ guarded (levels - 1) (mistyped (id_in s (field_at s at end))) (with_id t) (part_of s at end)
  unfolding id_in with_id behind_id number_under
  id_other w =
      wrong_id (ap (id_in s) (sym q ∙ w))
      (λ c. other_field (levels - 1) s at end r q w c
      (λ h. ap (with_id t) (fields_none (levels - 1) (part_of s at end) h))
      (λ h k.
      let f : Head (levels - 1) (part_of s at end) = fields_head (levels - 1) (part_of s at end) h c in
      ap (with_id t) f.all
      ∙ ap (λ (m : Option ℕ). behind_id t m f.others)
      (sym (cond_false _ None (ne_eqb f.field.identifier 0x02 (λ x. constructed_not (get_or (part s at end) 0 0) 0x02 k (λ z. omega arith) (sym f.identifier ∙ x)))))))

  module _ (frame : Frame) (w : r ≡ Some frame) (m : Option ℕ) (c : List ℕ) (x : c ≡ part s frame.start frame.stop) (y : m ≡ number_under 0x02 frame.id c) where
    pub id_first : guarded (levels - 1) (mistyped m) (behind_id t m) (part_of s frame.stop end) ≡ guarded (levels - 1) (mistyped (id_in s (field_at s at end))) (with_id t) (part_of s at end)
    unfolding id_in with_id behind_id
    id_first = go m (sym read)
      where
        read : m ≡ number_under 0x02 frame.id (part s frame.start frame.stop)
        read = y ∙ ap (number_under 0x02 frame.id) x

        found : id_in s (field_at s at end) ≡ m
        found = ap (id_in s) (sym q ∙ w) ∙ sym read

        go : (k : Option ℕ) → number_under 0x02 frame.id (part s frame.start frame.stop) ≡ k
            → guarded (levels - 1) (mistyped k) (behind_id t k) (part_of s frame.stop end) ≡ guarded (levels - 1) (mistyped (id_in s (field_at s at end))) (with_id t) (part_of s at end)
        go (Some i) z =
            ap (λ (j : Option ℕ). cond (contents_of (levels - 1) (part s frame.stop end)) (behind_id t j (fields (levels - 1) (part_of s frame.stop end))) (mistyped (Some i))) (sym z)
            ∙ number_passed (levels - 1) s at end r q frame w (omega arith) i z (mistyped (Some i)) (with_id t)
            ∙ ap (λ (j : Option ℕ). guarded (levels - 1) (mistyped j) (with_id t) (part_of s at end)) (sym (found ∙ read ∙ z))
        go None z =
            sym (behind_no_id t None (part_of s frame.stop end) refl)
            ∙ wrong_id (found ∙ read ∙ z)
            (λ k. ap (with_id t) (field_listed (levels - 1) s at end r q frame w k) ∙ ap (λ (j : Option ℕ). behind_id t j (fields (levels - 1) (part_of s frame.stop end))) z)
