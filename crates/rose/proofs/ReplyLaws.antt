-- What receive answers itself.
use Prim.Native.Nat.{ℕ, ◌+◌, ◌-◌, ◌*◌, ◌<◌, ◌≤◌}
use mathlib.Core.Path.{◌≡◌, refl, sym, ap, ◌∙◌}
use mathlib.Core.Bool.{true, false, not, false≢true}
use mathlib.Core.List.{List, [], ◌∷◌, ◌++◌, append-nil}
use native.Mathlib.Omega.{arith}
use lib.ListN.{length, take, drop, get_or, length-append}
use Rattle.std.proofs.Math.ListN.{length-take}
use borrow.Author.Tests.{leb-true}
use Rattle.base.proofs.Tests.{and_left, and_right}
use Rattle.std.specs.Prelude.{Some, None, is_some, Option}
use Rattle.std.proofs.lemmas.List.Quantifiers.{position-Some}
use Rattle.base.specs.Lists.{non_empty}
use Rattle.base.specs.Octets.{part}
use Rattle.codes.specs.declared.Code.{Code}
use Rattle.codes.specs.declared.Code.TheVariants.{Local, Global}
use Rattle.records.specs.declared.Kept.{Kept}
use Rattle.records.specs.Limits.{octets, answers, answer_octets}
use Rattle.records.specs.Kept.{sound_kept, is_kept, kept_apdu, view_kept, kept_places, answer_place, no_answer}
use Rattle.records.specs.Held.{Held, sound_held}
use Rattle.records.proofs.Soundness.{held_kept_sound}
use Rattle.records.proofs.HeldLaws.{kept_has_place, kept_stands}
use Rattle.ber.specs.Output.{Put}
use Rattle.ber.specs.Element.{element_octets}
use Rattle.ber.proofs.IntegerLaws.{count_within}
use Rattle.ber.proofs.ElementOctets.{element_octets_length}
use Rattle.optable.specs.declared.Service.{Service}
use Rattle.optable.specs.declared.Service.TheVariants.{Probe, Acknowledge, Ordinary}
use Rattle.optable.specs.Service.{answers_itself}
use Rattle.apdu.specs.Encode.{integer_field, code_field, body_field, encode_result, WrittenWhole}
use Rattle.codes.proofs.NameLaws.{contents_short}
use Rattle.apdu.proofs.SizeLaws.{length_most, integer_size, name_size}
use Rattle.protocol.specs.Check.{is_linked}
use Rattle.protocol.specs.Service.{about, inside_right, enumerated, reply}
use Rattle.rose.specs.Steps.{AllWritten}
use Rattle.rose.proofs.Written.{writes_one, writes_two}

-- ---- arguments

module _ (q : Service) (v : Option (List ℕ)) where
  pub inside_asked : not (answers_itself q) ≡ false → is_linked (about q v) ≡ inside_right q v
  inside_asked h = go q h
    where
      go : (q : Service) → not (answers_itself q) ≡ false → is_linked (about q v) ≡ inside_right q v
      go Probe h = refl
      go Acknowledge h = refl
      go Ordinary h = absurd (false≢true (sym h))

  pub inside_free : not (answers_itself q) ≡ true → true ≡ inside_right q v
  inside_free h = go q h
    where
      go : (q : Service) → not (answers_itself q) ≡ true → true ≡ inside_right q v
      go Probe h = absurd (false≢true h)
      go Acknowledge h = absurd (false≢true h)
      go Ordinary h = refl

-- ---- where an answer is kept

-- at most eight are
pub kept_most : (s : Held) → sound_held s ≡ true → length (kept_places s.state.kept) ≤ answers
unfolding sound_kept
kept_most s h =
    let few = leb-true s.state.kept.count answers (and_left _ _ (and_right _ _ (held_kept_sound s h))) in
    omega (arith, few, length-take s.state.kept.count s.state.kept.places)

module _ (k : Kept) (i : ℕ) where
  pub place_inside : (p : ℕ) → answer_place i k ≡ Some p → p < length (kept_places k)
  place_inside p h = (position-Some _ (kept_places k) p no_answer h).0

  pub not_kept : (store : List ℕ) → answer_place i k ≡ None → is_kept i (view_kept k store) ≡ false
  not_kept store h = kept_has_place k store i ∙ ap is_some h

  module _ (store : List ℕ) (p at used : ℕ) (h : answer_place i k ≡ Some p) (e : at ≡ p * answer_octets) (f : used ≡ (get_or (kept_places k) p no_answer).length) where
    pub is_kept_there : is_kept i (view_kept k store) ≡ true
    is_kept_there = kept_has_place k store i ∙ ap is_some h

    pub kept_there : part store at (at + used) ≡ kept_apdu i (view_kept k store)
    kept_there =
        let n : at + used - at ≡ (get_or (kept_places k) p no_answer).length = omega arith in
        let m : at ≡ answer_octets * p = omega arith in
        (λ t. take (n t) (drop (m t) store)) ∙ sym (kept_stands k store i p h)

-- ---- how it is written

pub reply_written : (i : ℕ) (c : Code) (n : ℕ) (before after : List ℕ) (k : ℕ) → WrittenWhole before (encode_result i c (non_empty (enumerated n))) after k → WrittenWhole before (reply i c n) after k
unfolding reply non_empty
reply_written i c n before after k w = w

code_most : (c : Code) → length (code_field c) ≤ 18
unfolding code_field
code_most (Local x) = omega (arith, integer_size 0x02 x, count_within x)
code_most (Global n) = omega (arith, name_size n, contents_short n)

-- a result of any code is short enough for an APDU
pub reply_small : (i : ℕ) (c : Code) (n : ℕ) → length (reply i c n) ≤ octets
unfolding reply encode_result body_field
reply_small i c n =
    let v = code_field c ++ enumerated n in
    let b = element_octets 0x30 v in
    omega (
      arith,
      element_octets_length 0xA2 (integer_field 0x02 i ++ b),
      length_most (length (integer_field 0x02 i ++ b)),
      length-append (integer_field 0x02 i) b,
      integer_size 0x02 i,
      count_within i,
      element_octets_length 0x30 v,
      length_most (length v),
      length-append (code_field c) (enumerated n),
      code_most c,
    )

module _ (i : ℕ) (before : List ℕ) where
  pub result_written : (c : Code) (n : ℕ) (after : List ℕ) (k : ℕ) → WrittenWhole before (reply i c n) after k → AllWritten (reply i c n ∷ []) before after k
  result_written c n after k w = writes_one before (reply i c n ∷ []) (reply i c n) (append-nil (reply i c n)) (reply_small i c n) after k w

  pub fetched_written : (c : Code) (m : ℕ) (middle : List ℕ) (n : ℕ) → WrittenWhole before (reply i c m) middle n → (y after : List ℕ) (k : ℕ) → Put middle n y after k → AllWritten (reply i c m ∷ y ∷ []) before after k
  fetched_written c m middle n w y after k put = writes_two before (reply i c m) y (reply_small i c m) middle n w after k put
