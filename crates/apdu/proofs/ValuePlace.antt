-- A value that is read stands at its place in the lent octets, within them, so that a caller may take it from there; and so does the first fault.
use Rattle.std.specs.Prelude.{Option, Some, None}
use Prim.Native.Nat.{ℕ, ◌-◌}
use mathlib.Core.Path.{◌≡◌, refl}
use mathlib.Core.List.{List, [], ◌∷◌}
use mathlib.Core.Bool.{◌&&◌}
use lib.ListN.{length}
use lib.Dec.{eqb, leb}
use Rattle.codes.specs.declared.Code.{Code}
use Rattle.base.proofs.Tests.{cond_elim}
use Rattle.records.specs.Limits.{levels}
use Rattle.ber.specs.declared.element.Frame.{Frame}
use Rattle.ber.specs.Element.{well_formed, place, frame_of}
use Rattle.ber.proofs.HeaderLaws.{Bounds}
use Rattle.ber.proofs.FrameLaws.{frame_bounds}
use Rattle.apdu.specs.Field.{Part, part_of, Field, fields}
use Rattle.apdu.specs.Parse.{CodedValue, Apdu, badly_structured, unrecognized, mistyped, invoke, result, error, reject, number_under, is_code, code_of, id_of, Coded, uncoded, coded, coded_with, coded_of, Linked, unlinked, linked, linked_with, linked_of, invoke_with, invoke_behind, result_with, result_behind, error_behind, is_problem, id_allowed, reject_with, reject_behind, reject_of, behind_id, with_id, by_kind, parse_at, parse}
use Rattle.apdu.proofs.FieldPlace.{Stands, AllStand, fields_stand}

-- a value that may be missing stands in x
abbrev pub ValueStands : List ℕ → Option Part → Type 0
ValueStands x None = Unit {0}
ValueStands x (Some p) = Stands x p

abbrev pub BodyStands : List ℕ → Option CodedValue → Type 0
BodyStands x None = Unit {0}
BodyStands x (Some b) = Stands x b.value

-- the value of an APDU stands in x, and the place of a fault is that of the first one in x
abbrev pub ApduStands : List ℕ → Apdu → Type 0
ApduStands x (badly_structured at) = at ≡ place levels x
ApduStands x unrecognized = Unit {0}
ApduStands x (mistyped i) = Unit {0}
ApduStands x (invoke i l c v) = ValueStands x v
ApduStands x (result i b) = BodyStands x b
ApduStands x (error i c v) = ValueStands x v
ApduStands x (reject i kind p) = Unit {0}

module _ (x : List ℕ) where
  abbrev CodedStands : Coded → Type 0
  CodedStands uncoded = Unit {0}
  CodedStands (coded c v) = ValueStands x v

  abbrev LinkedStands : Linked → Type 0
  LinkedStands unlinked = Unit {0}
  LinkedStands (linked l fs) = AllStand x fs

  -- ---- the fields

  coded_with_lem : (c : Option Code) (fs : List Field) → AllStand x fs → CodedStands (coded_with c fs)
  unfolding coded_with
  coded_with_lem c [] w = tt
  coded_with_lem c (v ∷ []) w = w.1
  coded_with_lem c (v ∷ u ∷ fs) w = tt

  coded_of_lem : (fs : List Field) → AllStand x fs → CodedStands (coded_of fs)
  unfolding coded_of
  coded_of_lem [] w = tt
  coded_of_lem (f ∷ fs) w = cond_elim CodedStands (is_code f.identifier) (coded_with (code_of f.identifier f.contents.octets) fs) uncoded (λ _. coded_with_lem (code_of f.identifier f.contents.octets) fs w.2) (λ _. tt)

  linked_with_lem : (n : Option ℕ) (fs : List Field) → AllStand x fs → LinkedStands (linked_with n fs)
  unfolding linked_with
  linked_with_lem None fs w = tt
  linked_with_lem (Some l) fs w = w

  linked_of_lem : (fs : List Field) → AllStand x fs → LinkedStands (linked_of fs)
  unfolding linked_of
  linked_of_lem [] w = tt
  linked_of_lem (f ∷ fs) w =
      cond_elim LinkedStands (eqb f.identifier 0x80) _ _ (λ _. linked_with_lem (number_under 0x80 f.identifier f.contents.octets) fs w.2)
      (λ _. cond_elim LinkedStands (eqb f.identifier 0x81) _ _
      (λ _. cond_elim LinkedStands (eqb (length f.contents.octets) 0) (linked None fs) unlinked (λ _. w.2) (λ _. tt))
      (λ _. w))

  -- ---- the APDUs

  invoke_with_lem : (i : ℕ) (l : Option ℕ) (c : Coded) → CodedStands c → ApduStands x (invoke_with i l c)
  unfolding invoke_with
  invoke_with_lem i l uncoded w = tt
  invoke_with_lem i l (coded c v) w = w

  invoke_behind_lem : (i : ℕ) (l : Linked) → LinkedStands l → ApduStands x (invoke_behind i l)
  unfolding invoke_behind
  invoke_behind_lem i unlinked w = tt
  invoke_behind_lem i (linked l fs) w = invoke_with_lem i l (coded_of fs) (coded_of_lem fs w)

  result_with_lem : (i : ℕ) (c : Coded) → CodedStands c → ApduStands x (result_with i c)
  unfolding result_with
  result_with_lem i uncoded w = tt
  result_with_lem i (coded c None) w = tt
  result_with_lem i (coded c (Some v)) w = w

  result_behind_lem : (i : ℕ) (fs : List Field) → AllStand x fs → ApduStands x (result_behind i fs)
  unfolding result_behind
  result_behind_lem i [] w = tt
  result_behind_lem i (f ∷ []) w =
      cond_elim (ApduStands x) (eqb f.identifier 0x30) _ (mistyped (Some i)) (λ _. result_with_lem i (coded_of (fields (levels - 2) f.contents)) (coded_of_lem (fields (levels - 2) f.contents) (fields_stand x (levels - 2) f.contents w.0))) (λ _. tt)
  result_behind_lem i (f ∷ g ∷ fs) w = tt

  error_behind_lem : (i : ℕ) (c : Coded) → CodedStands c → ApduStands x (error_behind i c)
  unfolding error_behind
  error_behind_lem i uncoded w = tt
  error_behind_lem i (coded c v) w = w

  reject_of_lem : (fs : List Field) → ApduStands x (reject_of fs)
  unfolding reject_of reject_behind reject_with
  reject_of_lem [] = tt
  reject_of_lem (f ∷ []) = tt
  reject_of_lem (f ∷ g ∷ []) = cond_elim (ApduStands x) (is_problem g.identifier g.contents.octets && id_allowed (id_of f) f.identifier g.identifier) _ (mistyped None) (λ _. tt) (λ _. tt)
  reject_of_lem (f ∷ g ∷ h ∷ fs) = tt

  behind_id_lem : (t : ℕ) (n : Option ℕ) (fs : List Field) → AllStand x fs → ApduStands x (behind_id t n fs)
  unfolding behind_id
  behind_id_lem t None fs w = tt
  behind_id_lem t (Some i) fs w =
      cond_elim (ApduStands x) (eqb t 0xA1) _ _ (λ _. invoke_behind_lem i (linked_of fs) (linked_of_lem fs w))
      (λ _. cond_elim (ApduStands x) (eqb t 0xA2) _ _ (λ _. result_behind_lem i fs w) (λ _. error_behind_lem i (coded_of fs) (coded_of_lem fs w)))

  with_id_lem : (t : ℕ) (fs : List Field) → AllStand x fs → ApduStands x (with_id t fs)
  unfolding with_id
  with_id_lem t [] w = tt
  with_id_lem t (f ∷ fs) w = behind_id_lem t (id_of f) fs w.2

  by_kind_lem : (t : ℕ) (fs : List Field) → AllStand x fs → ApduStands x (by_kind t fs)
  unfolding by_kind
  by_kind_lem t fs w =
      cond_elim (ApduStands x) (leb 0xA1 t && leb t 0xA3) _ _ (λ _. with_id_lem t fs w) (λ _. cond_elim (ApduStands x) (eqb t 0xA4) _ unrecognized (λ _. reject_of_lem fs) (λ _. tt))

  parse_at_lem : (h : Option Frame) → frame_of x ≡ h → ApduStands x (parse_at x h)
  unfolding parse_at
  parse_at_lem None q = refl
  parse_at_lem (Some f) q =
      let b : Bounds x f.id f.start f.stop = frame_bounds x f.id f.start f.stop q in
      by_kind_lem f.id (fields (levels - 1) (part_of x f.start f.stop)) (fields_stand x (levels - 1) (part_of x f.start f.stop) (record { octets = refl; ordered = b.order; within = b.within }))

  pub parse_stands : ApduStands x (parse x)
  unfolding parse
  parse_stands = cond_elim (ApduStands x) (well_formed levels x) (parse_at x (frame_of x)) (badly_structured (place levels x)) (λ _. parse_at_lem (frame_of x) refl) (λ _. refl)
