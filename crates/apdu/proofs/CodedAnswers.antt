-- What each way through the code of a code and its value, and of a linked id, answers.
use Rattle.std.specs.Prelude.{Option, Some, None}
use Prim.Native.Nat.{ℕ, ◌+◌, ◌-◌, ◌/◌, ◌%◌, ◌≤◌}
use mathlib.Core.Path.{◌≡◌, refl, sym, ap, subst, ◌∙◌}
use mathlib.Core.Bool.{Bool, true, false, cond, ◌&&◌, true≢false}
use mathlib.Core.List.{List, ◌∷◌}
use native.Mathlib.Omega.{arith}
use lib.ListN.{length, get_or}
use lib.Dec.{eqb, leb}
use borrow.Author.Tests.{eq-eqb, ne_eqb, eqb-true}
use Rattle.codes.specs.declared.Code.{Code}
use Rattle.base.proofs.Tests.{cond_elim, cond_true, cond_false, and_right, or_false}
use Rattle.base.specs.Octets.{part}
use Rattle.records.specs.Limits.{levels}
use Rattle.ber.specs.Header.{constructed}
use Rattle.ber.specs.Rule.{shortest, content_rule}
use Rattle.ber.specs.Integer.{integer_of}
use Rattle.ber.specs.Element.{contents_of, well_formed}
use Rattle.ber.proofs.RuleLaws.{constructed_not}
use Rattle.ber.proofs.FrameLaws.{Framed, well_formed_frame}
use Rattle.ber.specs.declared.element.Frame.{Frame}
use Rattle.apdu.specs.Field.{Part, part_of, Field, fields}
use Rattle.apdu.specs.Parse.{Apdu, mistyped, number_under, is_code, local_code, code_of, Coded, uncoded, coded, coded_with, coded_of, unlinked, linked, linked_with, linked_of, invoke_with, invoke_behind}
use Rattle.apdu.specs.Steps.{field_at, guarded, is_number, coded_in, invoke_in, behind_number}
use Rattle.apdu.proofs.FieldLaws.{fields_none}
use Rattle.apdu.proofs.FieldHead.{Head, fields_head}
use Rattle.apdu.proofs.FieldAnswers.{field_from, none_left, all_wrong, whole_left, not_whole, other_field, field_listed, primitive_passed, element_passed, element_not}

-- ---- a number in shortest form

number_shortest : (t identifier : ℕ) (c : List ℕ) (w : ℕ) → number_under t identifier c ≡ Some w → (identifier ≡ t) × (shortest c ≡ true)
unfolding number_under integer_of
number_shortest t identifier c w =
    cond_elim (λ (n : Option ℕ). n ≡ Some w → (identifier ≡ t) × (shortest c ≡ true)) (eqb identifier t) _ None
    (λ e. inner (eqb-true identifier t e)) (λ _ x. let z : ◌≡◌ {A = ℕ} 0 1 = cc in absurd (omega arith))
  where
    inner : identifier ≡ t → integer_of c ≡ Some w → (identifier ≡ t) × (shortest c ≡ true)
    inner e =
        cond_elim (λ (i : Option ℕ). i ≡ Some w → (identifier ≡ t) × (shortest c ≡ true)) (leb (length c) 4 && shortest c) _ None
        (λ q _. (e, and_right (leb (length c) 4) _ q)) (λ _ x. let z : ◌≡◌ {A = ℕ} 0 1 = cc in absurd (omega arith))

-- what is no 06 is by its number a code
pub code_by_number : (id : ℕ) (c : List ℕ) (n k : Option ℕ) → n ≡ number_under 0x02 id c → n ≡ k → (id ≡ 0x06 → ⊥) → local_code k ≡ code_of id c
unfolding code_of
code_by_number id c n k e f h = ap local_code (sym f ∙ e) ∙ rw (ne_eqb id 0x06 h) refl

module _ (d : ℕ) (s : List ℕ) (at end : ℕ) (r : Option Frame) (q : r ≡ field_at s at end) (frame : Frame) (w : r ≡ Some frame) (l : 1 ≤ d) where
  -- a field that is a right integer is an element
  pub number_passed : (i : ℕ) → number_under 0x02 frame.id (part s frame.start frame.stop) ≡ Some i → {B : Type 0} (v : B) (F : List Field → B)
      → guarded d v (λ fs. F (field_from s at frame.id frame.start frame.stop ∷ fs)) (part_of s frame.stop end) ≡ guarded d v F (part_of s at end)
  unfolding constructed content_rule
  number_passed i e {B} v F =
      let f = number_shortest 0x02 frame.id (part s frame.start frame.stop) i e in
      primitive_passed d s at end r q frame w l (rw f.0 refl) (rw f.0 f.1) v F

  -- a field with the number m that it says, and whether it was found right
  module _ (m : Option ℕ) (c : List ℕ) (x : c ≡ part s frame.start frame.stop) (y : m ≡ number_under 0x02 frame.id c) (t : Bool) (u : List ℕ) (z : u ≡ part s at frame.stop) (g : t ≡ cond (is_number m) true (well_formed d u)) where
    pub field_number : m ≡ number_under 0x02 frame.id (part s frame.start frame.stop)
    field_number = y ∙ ap (number_under 0x02 frame.id) x

    asked : cond (is_number m) true (well_formed d (part s at frame.stop)) ≡ t
    asked = ap (λ (k : List ℕ). cond (is_number m) true (well_formed d k)) (sym z) ∙ sym g

    pub right_passed : t ≡ true → {B : Type 0} (v : B) (F : List Field → B) → guarded d v (λ fs. F (field_from s at frame.id frame.start frame.stop ∷ fs)) (part_of s frame.stop end) ≡ guarded d v F (part_of s at end)
    unfolding is_number
    right_passed b {B} v F = go m refl (asked ∙ b)
      where
        go : (k : Option ℕ) → m ≡ k → cond (is_number k) true (well_formed d (part s at frame.stop)) ≡ true → guarded d v (λ fs. F (field_from s at frame.id frame.start frame.stop ∷ fs)) (part_of s frame.stop end) ≡ guarded d v F (part_of s at end)
        go (Some i) e h = number_passed i (sym field_number ∙ e) v F
        go None e h = element_passed d s at end r q frame w h v F

    pub right_not : t ≡ false → {B : Type 0} (v : B) (F : List Field → B) → v ≡ guarded d v F (part_of s at end)
    unfolding is_number
    right_not b {B} v F = go m (asked ∙ b)
      where
        go : (k : Option ℕ) → cond (is_number k) true (well_formed d (part s at frame.stop)) ≡ false → v ≡ guarded d v F (part_of s at end)
        go (Some i) h = let o : ◌≡◌ {A = Bool} true false = h in absurd (true≢false o)
        go None h = element_not d s at end r q frame w h v F

-- ---- at most one value behind a code

module _ (d : ℕ) (s : List ℕ) (at end : ℕ) (c : Option Code) (v : List ℕ) (e : v ≡ part s at end) where
  pub value_none : length v ≡ 0 → coded c None ≡ guarded d uncoded (coded_with c) (part_of s at end)
  unfolding coded_with
  value_none h = none_left d s at end uncoded (coded_with c) (sym (ap length e) ∙ h)

  pub value_one : well_formed d v ≡ true → coded c (Some (part_of s at (at + length v))) ≡ guarded d uncoded (coded_with c) (part_of s at end)
  unfolding coded_with
  value_one f =
      let k : Framed (part s at end) = well_formed_frame d (part s at end) (ap (well_formed d) (sym e) ∙ f) in
      ap {B = Coded} (λ l. coded c (Some (part_of s at (at + l)))) (ap length e)
      ∙ whole_left d s at end uncoded (coded_with c) (ap (well_formed d) (sym e) ∙ f) k.id k.a k.e k.frame

  pub value_not : 1 ≤ length v → well_formed d v ≡ false → uncoded ≡ guarded d uncoded (coded_with c) (part_of s at end)
  unfolding coded_with
  value_not h f = not_whole d s at end uncoded (coded_with c) (subst (λ (k : ℕ). 1 ≤ k) (ap length e) h) (ap (well_formed d) (sym e) ∙ f) (λ f g fs. refl)

-- ---- a code and at most one value

module _ (d : ℕ) (s : List ℕ) (at end : ℕ) (r : Option Frame) (q : r ≡ field_at s at end) where
  pub coded_other : r ≡ None → uncoded ≡ coded_in d (part_of s at end)
  unfolding coded_of is_code
  coded_other w =
      all_wrong d s at end uncoded coded_of
      (λ c. other_field d s at end r q w c
      (λ h. ap coded_of (fields_none d (part_of s at end) h))
      (λ h k.
      let f : Head d (part_of s at end) = fields_head d (part_of s at end) h c in
      let n : (t : ℕ) → (t / 32 % 2 ≡ 1 → ⊥) → eqb f.field.identifier t ≡ false = λ t z. ne_eqb f.field.identifier t (λ x. constructed_not (get_or (part s at end) 0 0) t k z (sym f.identifier ∙ x)) in
      ap coded_of f.all ∙ sym (cond_false _ uncoded (or_false (n 0x02 (λ z. omega arith)) (n 0x06 (λ z. omega arith))))))

  module _ (frame : Frame) (w : r ≡ Some frame) where
    pub coded_not : is_code frame.id ≡ false → uncoded ≡ coded_in d (part_of s at end)
    unfolding coded_of
    coded_not e = all_wrong d s at end uncoded coded_of (λ c. ap coded_of (field_listed d s at end r q frame w c) ∙ sym (cond_false _ uncoded e))

    module _ (l : 1 ≤ d) (m : Option ℕ) (c : List ℕ) (x : c ≡ part s frame.start frame.stop) (y : m ≡ number_under 0x02 frame.id c) (t : Bool) (u : List ℕ) (z : u ≡ part s at frame.stop) (g : t ≡ cond (is_number m) true (well_formed d u)) where
      pub coded_wrong : t ≡ false → uncoded ≡ coded_in d (part_of s at end)
      coded_wrong b = right_not d s at end r q frame w l m c x y t u z g b uncoded coded_of

      pub coded_behind : is_code frame.id ≡ true → t ≡ true → (k : Option Code) → k ≡ code_of frame.id c → guarded d uncoded (coded_with k) (part_of s frame.stop end) ≡ coded_in d (part_of s at end)
      unfolding coded_of
      coded_behind e b k h =
          ap (λ (o : Coded). cond (contents_of d (part s frame.stop end)) o uncoded)
          (ap (λ (j : Option Code). coded_with j (fields d (part_of s frame.stop end))) (h ∙ ap (code_of frame.id) x) ∙ cond_true _ uncoded e)
          ∙ right_passed d s at end r q frame w l m c x y t u z g b uncoded coded_of

-- ---- an optional linked id: an Invoke behind its id

-- the answer from the code on, where the fields there may be no elements
invoke_pushed : (d i : ℕ) (l : Option ℕ) (p : Part) → invoke_with i l (coded_in d p) ≡ guarded d (mistyped (Some i)) (λ fs. invoke_with i l (coded_of fs)) p
unfolding invoke_with
invoke_pushed d i l p = go (contents_of d p.octets)
  where
    go : (b : Bool) → invoke_with i l (cond b (coded_of (fields d p)) uncoded) ≡ cond b (invoke_with i l (coded_of (fields d p))) (mistyped (Some i))
    go true = refl
    go false = refl

module _ (s : List ℕ) (at end : ℕ) (r : Option Frame) (q : r ≡ field_at s at end) (i : ℕ) where
  -- none stands there
  unlinked_fields : (contents_of (levels - 1) (part s at end) ≡ true → linked_of (fields (levels - 1) (part_of s at end)) ≡ linked None (fields (levels - 1) (part_of s at end)))
      → invoke_with i None (coded_in (levels - 1) (part_of s at end)) ≡ invoke_in i (part_of s at end)
  unfolding invoke_behind
  unlinked_fields e = invoke_pushed (levels - 1) i None (part_of s at end) ∙ go (contents_of (levels - 1) (part s at end)) refl
    where
      go : (b : Bool) → contents_of (levels - 1) (part s at end) ≡ b
          → cond b (invoke_with i None (coded_of (fields (levels - 1) (part_of s at end)))) (mistyped (Some i)) ≡ cond b (invoke_behind i (linked_of (fields (levels - 1) (part_of s at end)))) (mistyped (Some i))
      go true c = ap (invoke_behind i) (sym (e c))
      go false c = refl

  linked_not : (f : Field) (fs : List Field) → (f.identifier ≡ 0x80 → ⊥) → (f.identifier ≡ 0x81 → ⊥) → linked_of (f ∷ fs) ≡ linked None (f ∷ fs)
  unfolding linked_of
  linked_not f fs x y = sym (cond_false _ _ (ne_eqb f.identifier 0x81 y) ∙ cond_false _ _ (ne_eqb f.identifier 0x80 x))

  pub linked_other : r ≡ None → invoke_with i None (coded_in (levels - 1) (part_of s at end)) ≡ invoke_in i (part_of s at end)
  unfolding linked_of
  linked_other w =
      unlinked_fields
      (λ c. other_field (levels - 1) s at end r q w c
      (λ h. let e = fields_none (levels - 1) (part_of s at end) h in ap linked_of e ∙ ap (linked None) (sym e))
      (λ h k.
      let f : Head (levels - 1) (part_of s at end) = fields_head (levels - 1) (part_of s at end) h c in
      ap linked_of f.all
      ∙ linked_not f.field f.others
      (λ x. constructed_not (get_or (part s at end) 0 0) 0x80 k (λ z. omega arith) (sym f.identifier ∙ x))
      (λ x. constructed_not (get_or (part s at end) 0 0) 0x81 k (λ z. omega arith) (sym f.identifier ∙ x))
      ∙ ap (linked None) (sym f.all)))

  module _ (frame : Frame) (w : r ≡ Some frame) where
    pub linked_code : (frame.id ≡ 0x80 → ⊥) → (frame.id ≡ 0x81 → ⊥) → invoke_with i None (coded_in (levels - 1) (part_of s at end)) ≡ invoke_in i (part_of s at end)
    linked_code x y =
        unlinked_fields
        (λ c.
        let e = field_listed (levels - 1) s at end r q frame w c in
        ap linked_of e ∙ linked_not (field_from s at frame.id frame.start frame.stop) (fields (levels - 1) (part_of s frame.stop end)) x y ∙ ap (linked None) (sym e))

    -- a wrong one stands there
    linked_wrong : ((fs : List Field) → linked_of (field_from s at frame.id frame.start frame.stop ∷ fs) ≡ unlinked) → mistyped (Some i) ≡ invoke_in i (part_of s at end)
    unfolding invoke_behind
    linked_wrong e =
        all_wrong (levels - 1) s at end (mistyped (Some i)) (λ fs. invoke_behind i (linked_of fs))
        (λ c. ap (λ (fs : List Field). invoke_behind i (linked_of fs)) (field_listed (levels - 1) s at end r q frame w c) ∙ ap (invoke_behind i) (e (fields (levels - 1) (part_of s frame.stop end))))

    -- a right one, and what is behind it
    linked_right : (l : Option ℕ) → constructed frame.id ≡ false → content_rule frame.id (part s frame.start frame.stop) ≡ true → ((fs : List Field) → linked_of (field_from s at frame.id frame.start frame.stop ∷ fs) ≡ linked l fs)
        → invoke_with i l (coded_in (levels - 1) (part_of s frame.stop end)) ≡ invoke_in i (part_of s at end)
    unfolding invoke_behind
    linked_right l k x e =
        invoke_pushed (levels - 1) i l (part_of s frame.stop end)
        ∙ ap (λ (o : Apdu). cond (contents_of (levels - 1) (part s frame.stop end)) o (mistyped (Some i))) (ap (invoke_behind i) (sym (e (fields (levels - 1) (part_of s frame.stop end)))))
        ∙ primitive_passed (levels - 1) s at end r q frame w (omega arith) k x (mistyped (Some i)) (λ fs. invoke_behind i (linked_of fs))

    pub linked_80 : (m : Option ℕ) (c : List ℕ) → c ≡ part s frame.start frame.stop → m ≡ number_under 0x80 frame.id c → frame.id ≡ 0x80 → behind_number i m (part_of s frame.stop end) ≡ invoke_in i (part_of s at end)
    unfolding linked_of linked_with behind_number constructed content_rule
    linked_80 m c x y e = go m (sym (y ∙ ap (number_under 0x80 frame.id) x))
      where
        by : (k : Option ℕ) → number_under 0x80 frame.id (part s frame.start frame.stop) ≡ k → (fs : List Field) → linked_of (field_from s at frame.id frame.start frame.stop ∷ fs) ≡ linked_with k fs
        by k z fs = sym (cond_true _ _ (eq-eqb frame.id 0x80 e)) ∙ ap (λ (j : Option ℕ). linked_with j fs) z

        go : (k : Option ℕ) → number_under 0x80 frame.id (part s frame.start frame.stop) ≡ k → behind_number i k (part_of s frame.stop end) ≡ invoke_in i (part_of s at end)
        go (Some l) z = linked_right (Some l) (rw e refl) (rw e refl) (by (Some l) z)
        go None z = linked_wrong (by None z)

    module _ (c : List ℕ) (x : c ≡ part s frame.start frame.stop) (e : frame.id ≡ 0x81) where
      by_81 : (fs : List Field) → linked_of (field_from s at frame.id frame.start frame.stop ∷ fs) ≡ cond (eqb (length c) 0) (linked None fs) unlinked
      unfolding linked_of
      by_81 fs =
          sym (ap (λ (l : List ℕ). cond (eqb (length l) 0) (linked None fs) unlinked) x ∙ cond_true _ _ (eq-eqb frame.id 0x81 e) ∙ cond_false _ _ (ne_eqb frame.id 0x80 (omega arith)))

      pub linked_81_empty : length c ≡ 0 → invoke_with i None (coded_in (levels - 1) (part_of s frame.stop end)) ≡ invoke_in i (part_of s at end)
      unfolding constructed content_rule
      linked_81_empty h = linked_right None (rw e refl) (rw e refl) (λ fs. by_81 fs ∙ sym (cond_true _ _ (eq-eqb (length c) 0 h)))

      pub linked_81_filled : (length c ≡ 0 → ⊥) → mistyped (Some i) ≡ invoke_in i (part_of s at end)
      linked_81_filled h = linked_wrong (λ fs. by_81 fs ∙ sym (cond_false _ _ (ne_eqb (length c) 0 h)))
