-- What the code that goes by the first octet answers, and what becomes of it where octets are not well formed.
use Rattle.std.specs.Prelude.{Option, Some, None}
use Prim.Native.Nat.{ℕ, ◌-◌, ◌/◌, ◌%◌, ◌<◌, ◌≤◌}
use mathlib.Core.Path.{◌≡◌, refl, sym, ap, ◌∙◌}
use mathlib.Core.Bool.{Bool, true, false, cond, ◌&&◌}
use mathlib.Core.List.{List, [], ◌∷◌}
use types.Run.{OneOf}
use denote.Enum.Declared.{tag_of}
use native.Mathlib.Omega.{arith}
use lib.Dec.{leb}
use borrow.Author.Tests.{eq-eqb, ne_eqb, le-leb, lt-leb}
use Rattle.base.proofs.Tests.{cond_elim, cond_true, cond_false, and_true, and_false_left, and_false_right}
use Rattle.base.proofs.Keys.{no_key}
use Rattle.base.specs.Octets.{part}
use Rattle.records.specs.Limits.{levels}
use Rattle.ber.specs.declared.element.Frame.{Frame}
use Rattle.ber.specs.declared.element.Finding.{Finding}
use Rattle.ber.specs.declared.element.Finding.TheVariants.{One, More, Fault}
use Rattle.ber.specs.Header.{constructed}
use Rattle.ber.specs.Element.{inside_of, contents_of, makes_element, well_formed, finding_in, is_one, place_in, place, frame_of}
use Rattle.ber.proofs.RuleLaws.{constructed_rule}
use Rattle.ber.proofs.FrameLaws.{framed, well_formed_framed}
use Rattle.ber.proofs.FaultLaws.{well_formed_finding, finding_one}
use Rattle.apdu.specs.declared.Parsed.{Parsed}
use Rattle.apdu.specs.declared.Parsed.TheVariants.{BadlyStructured, Unrecognized, Mistyped, Invoke, Result, Error, InvokeReject, ResultReject, ErrorReject, GeneralReject}
use Rattle.apdu.specs.contracts.Parsed as parsed
use Rattle.apdu.specs.Field.{part_of, Field, fields}
use Rattle.apdu.specs.Parse.{Apdu, badly_structured, unrecognized, mistyped, reject_of, with_id, by_kind, parse_at, parse}
use Rattle.apdu.specs.Reading.{read_parsed}
use Rattle.apdu.specs.Steps.{guarded, unsettled, judge, settle, Reading}

-- ---- by the first octet

module _ (s : List ℕ) (at end : ℕ) (t : ℕ) (r : Parsed) where
  abbrev Answer : Type 0
  Answer = Reading s (makes_element (inside_of (levels - 1)) t (part s at end)) r (by_kind t (fields (levels - 1) (part_of s at end)))

  other_kind : (t ≡ 0xA4 → ⊥) → (leb 0xA1 t && leb t 0xA3) ≡ false → read_parsed s r ≡ unrecognized → Answer
  unfolding by_kind unsettled
  other_kind x y e = record { right = λ _. e ∙ cond_false _ _ (ne_eqb t 0xA4 x) ∙ cond_false _ _ y; wrong = λ _. ap unsettled e }

  pub kind_low : t < 0xA1 → read_parsed s r ≡ unrecognized → Answer
  kind_low h = other_kind (λ e. omega arith) (and_false_left (leb 0xA1 t) (leb t 0xA3) (lt-leb 0xA1 t h))

  pub kind_high : 0xA4 < t → read_parsed s r ≡ unrecognized → Answer
  kind_high h = other_kind (λ e. omega arith) (and_false_right (leb 0xA1 t) (leb t 0xA3) (lt-leb t 0xA3 (omega arith)))

  -- the four kinds are constructed, so that their contents are elements where they are well formed
  four_kinds : 0xA1 ≤ t → t ≤ 0xA4 → (m : Option ℕ) (F : List Field → Apdu) → read_parsed s r ≡ guarded (levels - 1) (mistyped m) F (part_of s at end)
      → F (fields (levels - 1) (part_of s at end)) ≡ by_kind t (fields (levels - 1) (part_of s at end)) → Answer
  unfolding constructed unsettled
  four_kinds l h m F e k =
      let o = eq-eqb (t / 32 % 2) 1 (omega arith) in
      let same : contents_of (levels - 1) (part s at end) ≡ makes_element (inside_of (levels - 1)) t (part s at end) = rw (constructed_rule t (part s at end) o, o) refl in
      record {
        right = λ w. e ∙ sym (cond_true _ (mistyped m) (same ∙ w)) ∙ k;
        wrong = λ w. ap unsettled (e ∙ sym (cond_false (F (fields (levels - 1) (part_of s at end))) (mistyped m) (same ∙ w)));
      }

  pub kind_with : 0xA1 ≤ t → t ≤ 0xA3 → (m : Option ℕ) → read_parsed s r ≡ guarded (levels - 1) (mistyped m) (with_id t) (part_of s at end) → Answer
  unfolding by_kind
  kind_with l h m e = four_kinds l (omega arith) m (with_id t) e (cond_true _ _ (and_true (le-leb 0xA1 t l) (le-leb t 0xA3 h)))

  pub kind_reject : t ≡ 0xA4 → read_parsed s r ≡ guarded (levels - 1) (mistyped None) reject_of (part_of s at end) → Answer
  unfolding by_kind
  kind_reject x e =
      four_kinds (omega arith) (omega arith) None reject_of e
      (cond_true _ _ (eq-eqb t 0xA4 x) ∙ cond_false _ _ (and_false_right (leb 0xA1 t) (leb t 0xA3) (lt-leb t 0xA3 (omega arith))))

-- ---- the whole

pub judged_by : (x : List ℕ) (a : Apdu) (f g : Finding) → f ≡ finding_in levels x → f ≡ g → judge g a ≡ judge (finding_in levels x) a
judged_by x a f g q e = ap (λ (h : Finding). judge h a) (sym e ∙ q)

judged_right : (x : List ℕ) (a : Apdu) → well_formed levels x ≡ true → judge (finding_in levels x) a ≡ a
unfolding judge
judged_right x a q = ap (λ (f : Finding). judge f a) (finding_one levels x q)

judged_wrong : (x : List ℕ) (a : Apdu) → well_formed levels x ≡ false → judge (finding_in levels x) a ≡ badly_structured (place levels x)
unfolding judge
judged_wrong x a q = go (finding_in levels x) (well_formed_finding levels x ∙ q)
  where
    go : (f : Finding) → is_one f ≡ false → judge f a ≡ badly_structured (place_in f)
    go One e = cc
    go (More at) e = refl
    go (Fault at) e = refl

-- what is settled stays
module _ (f : Finding) (a : Apdu) where
  settled_so : unsettled a ≡ false → a ≡ settle f a
  unfolding settle
  settled_so u = cond_false (judge f a) a u

  settled_not : unsettled a ≡ true → judge f a ≡ settle f a
  unfolding settle
  settled_not u = cond_true (judge f a) a u

module _ (s : List ℕ) (f : Finding) (r : Parsed) where
  pub settled_mistyped : (n : Option ℕ) → r ≡ Mistyped n → judge f (read_parsed s r) ≡ settle f (read_parsed s r)
  unfolding read_parsed unsettled
  settled_mistyped n e = settled_not f (read_parsed s r) (ap (λ (x : Parsed). unsettled (read_parsed s x)) e)

  pub settled_unrecognized : r ≡ Unrecognized → judge f (read_parsed s r) ≡ settle f (read_parsed s r)
  unfolding read_parsed unsettled
  settled_unrecognized e = settled_not f (read_parsed s r) (ap (λ (x : Parsed). unsettled (read_parsed s x)) e)

-- the answers that are neither wrong fields nor a wrong first octet
abbrev others : List ℕ
others = 3 ∷ 4 ∷ 5 ∷ 6 ∷ 7 ∷ 8 ∷ 9 ∷ []

pub settled_other : (s : List ℕ) (f : Finding) (r : Parsed) → OneOf (0 ∷ others) (tag_of parsed.the_type r) → read_parsed s r ≡ settle f (read_parsed s r)
unfolding read_parsed unsettled
settled_other s f r h = settled_so f (read_parsed s r) (go r h)
  where
    go : (r : Parsed) → OneOf (0 ∷ others) (tag_of parsed.the_type r) → unsettled (read_parsed s r) ≡ false
    go (BadlyStructured at) h = refl
    go Unrecognized h = absurd (no_key 0 others 1 refl h)
    go (Mistyped i) h = absurd (no_key 0 others 2 refl h)
    go (Invoke i l c v) h = refl
    go (Result i b) h = refl
    go (Error i c v) h = refl
    go (InvokeReject i p) h = refl
    go (ResultReject i p) h = refl
    go (ErrorReject i p) h = refl
    go (GeneralReject i p) h = refl

module _ (x : List ℕ) (f : Option Frame) (q : f ≡ frame_of x) where
  pub parse_frameless : f ≡ None → judge (finding_in levels x) unrecognized ≡ parse x
  unfolding parse
  parse_frameless w =
      let e : well_formed levels x ≡ false = well_formed_framed 15 x ∙ ap (framed 15 x) (sym q ∙ w) in
      judged_wrong x unrecognized e ∙ cond_false _ _ e

  pub parse_framed : (frame : Frame) → f ≡ Some frame → (r : Parsed) → Reading x (makes_element (inside_of (levels - 1)) frame.id (part x frame.start frame.stop)) r (by_kind frame.id (fields (levels - 1) (part_of x frame.start frame.stop))) → settle (finding_in levels x) (read_parsed x r) ≡ parse x
  unfolding parse parse_at settle
  parse_framed frame w r k = go (well_formed levels x) refl
    where
      well : makes_element (inside_of (levels - 1)) frame.id (part x frame.start frame.stop) ≡ well_formed levels x
      well = sym (well_formed_framed 15 x ∙ ap (framed 15 x) (sym q ∙ w))

      go : (b : Bool) → well_formed levels x ≡ b → settle (finding_in levels x) (read_parsed x r) ≡ cond b (parse_at x (frame_of x)) (badly_structured (place levels x))
      go true z =
          cond_elim (λ (a : Apdu). a ≡ read_parsed x r) (unsettled (read_parsed x r)) _ (read_parsed x r) (λ _. judged_right x (read_parsed x r) z) (λ _. refl)
          ∙ k.right (well ∙ z) ∙ ap (parse_at x) (sym w ∙ q)
      go false z = sym (cond_true _ (read_parsed x r) (k.wrong (well ∙ z))) ∙ judged_wrong x (read_parsed x r) z
