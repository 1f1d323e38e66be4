-- The first octet decides the kind, of what is read and of what is written.
use Rattle.std.specs.Prelude.{Option, Some, None}
use Prim.Native.Nat.{ℕ, ◌-◌, ◌≤◌, ◌<◌}
use mathlib.Core.Path.{◌≡◌, refl, ap, subst}
use mathlib.Core.Logic.{◌⊎◌, inl, inr}
use mathlib.Core.Bool.{cond, ◌&&◌}
use mathlib.Core.List.{List, [], ◌∷◌}
use native.Mathlib.Omega.{arith}
use lib.ListN.{get_or}
use lib.Dec.{eqb, leb}
use borrow.Author.Tests.{eqb-true, eqb-false, leb-true}
use Rattle.base.proofs.Tests.{cond_elim, and_left, and_right}
use Rattle.codes.specs.declared.Code.{Code}
use Rattle.records.specs.Limits.{levels}
use Rattle.ber.specs.declared.element.Frame.{Frame}
use Rattle.ber.specs.Element.{well_formed, place, frame_of, element_octets}
use Rattle.ber.proofs.FrameLaws.{frame_bounds}
use Rattle.apdu.specs.Field.{part_of, Field, fields}
use Rattle.apdu.specs.Parse.{Apdu, badly_structured, unrecognized, mistyped, invoke, result, error, reject, id_of, Coded, uncoded, coded, coded_of, Linked, unlinked, linked, linked_of, invoke_with, invoke_behind, result_with, result_behind, error_behind, is_problem, id_allowed, reject_with, reject_behind, reject_of, behind_id, with_id, by_kind, parse_at, parse}
use Rattle.apdu.specs.Encode.{encode_invoke, encode_result, encode_error, encode_reject}

-- the first octet of an APDU of this kind, 0 for none of the four
abbrev pub kind_octet : Apdu → ℕ
kind_octet (badly_structured at) = 0
kind_octet unrecognized = 0
kind_octet (mistyped i) = 0
kind_octet (invoke i l c v) = 0xA1
kind_octet (result i b) = 0xA2
kind_octet (error i c v) = 0xA3
kind_octet (reject i k p) = 0xA4

-- an APDU of the kind that t says, or of none
abbrev pub Says : ℕ → Apdu → Type 0
Says t a = (kind_octet a ≡ 0) ⊎ (kind_octet a ≡ t)

says_coded : (i : ℕ) (l : Option ℕ) (c : Coded) → Says 0xA1 (invoke_with i l c) × Says 0xA2 (result_with i c) × Says 0xA3 (error_behind i c)
unfolding invoke_with result_with error_behind
says_coded i l uncoded = (inl refl, inl refl, inl refl)
says_coded i l (coded c None) = (inr refl, inl refl, inr refl)
says_coded i l (coded c (Some v)) = (inr refl, inr refl, inr refl)

says_invoke : (i : ℕ) (l : Linked) → Says 0xA1 (invoke_behind i l)
unfolding invoke_behind
says_invoke i unlinked = inl refl
says_invoke i (linked l fs) = (says_coded i l (coded_of fs)).0

says_result : (i : ℕ) (fs : List Field) → Says 0xA2 (result_behind i fs)
unfolding result_behind
says_result i [] = inr refl
says_result i (f ∷ []) =
    cond_elim (Says 0xA2) (eqb f.identifier 0x30) (result_with i (coded_of (fields (levels - 2) f.contents))) (mistyped (Some i))
    (λ _. (says_coded i None (coded_of (fields (levels - 2) f.contents))).1) (λ _. inl refl)
says_result i (f ∷ g ∷ fs) = inl refl

says_behind : (n : Option ℕ) (t : ℕ) (fs : List Field) → Says 0xA4 (reject_behind n t fs)
unfolding reject_behind reject_with
says_behind n t [] = inl refl
says_behind n t (g ∷ []) =
    cond_elim (Says 0xA4) (is_problem g.identifier g.contents.octets && id_allowed n t g.identifier) (reject n g.identifier (get_or g.contents.octets 0 0)) (mistyped None)
    (λ _. inr refl) (λ _. inl refl)
says_behind n t (g ∷ h ∷ fs) = inl refl

says_reject : (fs : List Field) → Says 0xA4 (reject_of fs)
unfolding reject_of
says_reject [] = inl refl
says_reject (f ∷ fs) = says_behind (id_of f) f.identifier fs

says_as : (t k : ℕ) (a : Apdu) → t ≡ k → Says k a → Says t a
says_as t k a e o = subst (λ (n : ℕ). Says n a) (omega arith) o

says_id : (t : ℕ) (n : Option ℕ) (fs : List Field) → 0xA1 ≤ t → t ≤ 0xA3 → Says t (behind_id t n fs)
unfolding behind_id
says_id t None fs l h = inl refl
says_id t (Some i) fs l h =
    cond_elim (Says t) (eqb t 0xA1) (invoke_behind i (linked_of fs)) (cond (eqb t 0xA2) (result_behind i fs) (error_behind i (coded_of fs)))
    (λ e. says_as t 0xA1 (invoke_behind i (linked_of fs)) (eqb-true t 0xA1 e) (says_invoke i (linked_of fs)))
    (λ x. cond_elim (Says t) (eqb t 0xA2) (result_behind i fs) (error_behind i (coded_of fs))
    (λ e. says_as t 0xA2 (result_behind i fs) (eqb-true t 0xA2 e) (says_result i fs))
    (λ y. says_as t 0xA3 (error_behind i (coded_of fs)) (omega (arith, eqb-false t 0xA1 x, eqb-false t 0xA2 y)) (says_coded i None (coded_of fs)).2))

says_with : (t : ℕ) (fs : List Field) → 0xA1 ≤ t → t ≤ 0xA3 → Says t (with_id t fs)
unfolding with_id
says_with t [] l h = inl refl
says_with t (f ∷ fs) l h = says_id t (id_of f) fs l h

says_kind : (t : ℕ) (fs : List Field) → Says t (by_kind t fs)
unfolding by_kind
says_kind t fs =
    cond_elim (Says t) (leb 0xA1 t && leb t 0xA3) (with_id t fs) (cond (eqb t 0xA4) (reject_of fs) unrecognized)
    (λ e. says_with t fs (leb-true 0xA1 t (and_left (leb 0xA1 t) (leb t 0xA3) e)) (leb-true t 0xA3 (and_right (leb 0xA1 t) (leb t 0xA3) e)))
    (λ _. cond_elim (Says t) (eqb t 0xA4) (reject_of fs) unrecognized (λ e. says_as t 0xA4 (reject_of fs) (eqb-true t 0xA4 e) (says_reject fs)) (λ _. inl refl))

says_at : (x : List ℕ) (h : Option Frame) → frame_of x ≡ h → Says (get_or x 0 0) (parse_at x h)
unfolding parse_at
says_at x None q = inl refl
says_at x (Some f) q =
    subst (λ (t : ℕ). Says t (by_kind f.id (fields (levels - 1) (part_of x f.start f.stop)))) (frame_bounds x f.id f.start f.stop q).first (says_kind f.id (fields (levels - 1) (part_of x f.start f.stop)))

says_first : (x : List ℕ) → Says (get_or x 0 0) (parse x)
unfolding parse
says_first x = cond_elim (Says (get_or x 0 0)) (well_formed levels x) (parse_at x (frame_of x)) (badly_structured (place levels x)) (λ _. says_at x (frame_of x) refl) (λ _. inl refl)

-- what is read as one of the four kinds starts with the octet of that kind
pub first_read : (x : List ℕ) (a : Apdu) → parse x ≡ a → 0 < kind_octet a → get_or x 0 0 ≡ kind_octet a
first_read x a e h = go (says_first x)
  where
    go : Says (get_or x 0 0) (parse x) → get_or x 0 0 ≡ kind_octet a
    go (inl o) = absurd (omega (arith, ap kind_octet e))
    go (inr o) = omega (arith, ap kind_octet e)

-- an encoding starts with its identifier
first_written : (t : ℕ) (c : List ℕ) → get_or (element_octets t c) 0 0 ≡ t
unfolding element_octets
first_written t c = refl

module _ (i : ℕ) (c : Code) (v : Option (List ℕ)) where
  pub first_invoke : (l : Option ℕ) → get_or (encode_invoke i l c v) 0 0 ≡ 0xA1
  unfolding encode_invoke
  first_invoke l = first_written 0xA1 _

  pub first_result : get_or (encode_result i c v) 0 0 ≡ 0xA2
  unfolding encode_result
  first_result = first_written 0xA2 _

  pub first_error : get_or (encode_error i c v) 0 0 ≡ 0xA3
  unfolding encode_error
  first_error = first_written 0xA3 _

pub first_reject : (i : Option ℕ) (k p : ℕ) → get_or (encode_reject i k p) 0 0 ≡ 0xA4
unfolding encode_reject
first_reject i k p = first_written 0xA4 _
