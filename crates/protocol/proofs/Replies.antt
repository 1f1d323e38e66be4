-- What receive answers itself: how long it is, what it reads as, and that a valid table lets it pass.
use Rattle.std.specs.Prelude.{Some}
use Prim.Native.Nat.{ℕ, ◌+◌, ◌≤◌, ◌<◌, ◌^◌}
use mathlib.Core.Path.{◌≡◌, refl, ◌∙◌}
use mathlib.Core.Bool.{true, false}
use mathlib.Core.List.{List, [], ◌∷◌, ◌++◌}
use mathlib.Core.Logic.{◌⊎◌, inl, inr}
use native.Mathlib.Omega.{arith}
use lib.ListN.{length, length-append}
use lib.Dec.{eqb}
use borrow.Author.Tests.{eqb-true}
use Rattle.base.proofs.Tests.{or_cases}
use Rattle.codes.specs.declared.Code.{Code}
use Rattle.codes.specs.declared.Code.TheVariants.{Local}
use Rattle.records.specs.Limits.{octets}
use Rattle.ber.specs.Header.{one_of, length_octets, constructed}
use Rattle.ber.specs.Rule.{shortest, content_rule}
use Rattle.ber.specs.Integer.{octet_count, fits_octets}
use Rattle.ber.specs.Element.{well_formed, element_octets}
use Rattle.ber.proofs.IntegerLaws.{count_within}
use Rattle.optable.specs.declared.Service.{Service}
use Rattle.optable.specs.declared.Service.TheVariants.{Probe, Acknowledge, Ordinary}
use Rattle.optable.specs.Service.{service_of, answers_itself}
use Rattle.optable.specs.Lookup.{operation_of, listed, class_of, result_of}
use Rattle.optable.specs.Validity.{valid}
use Rattle.optable.specs.Value.{value_right}
use Rattle.optable.proofs.ServiceLaws.{code_of_service, services_right}
use Rattle.apdu.specs.Parse.{parse, result as Result}
use Rattle.apdu.specs.Encode.{integer_field, code_field, body_field, encode_result}
use Rattle.apdu.proofs.FieldLaws.{octets_well_formed}
use Rattle.apdu.proofs.SizeLaws.{short_size, integer_size}
use Rattle.apdu.proofs.FieldRoundTrip.{last_part, CodeFits}
use Rattle.apdu.proofs.RoundTrip.{body_of, parse_result}
use Rattle.protocol.specs.Check.{class_in, is_class}
use Rattle.protocol.specs.Service.{enumerated, reply}
use Rattle.protocol.specs.ShownWasGiven.{Small}

-- ---- octets

enumerated_well : (n : ℕ) → well_formed 14 (enumerated n) ≡ true
unfolding element_octets length_octets one_of content_rule shortest constructed
enumerated_well n = octets_well_formed 0x0A (n ∷ []) refl (omega arith) 13 refl refl

-- the local code of a result takes as many octets as it has, and 11 more stand around it and the id
reply_size : (i x n : ℕ) → length (reply i (Local x) n) ≡ octet_count i + octet_count x + 11
unfolding reply encode_result body_field code_field
reply_size i x n =
    let b = integer_field 0x02 x ++ enumerated n in
    let p = count_within i in
    let q = count_within x in
    let body : length b ≡ octet_count x + 5 = omega (arith, length-append (integer_field 0x02 x) (enumerated n), integer_size 0x02 x) in
    let thirty : length (element_octets 0x30 b) ≡ octet_count x + 7 = short_size 0x30 b (omega arith) ∙ omega arith in
    let all : length (integer_field 0x02 i ++ element_octets 0x30 b) ≡ octet_count i + octet_count x + 9 = omega (arith, length-append (integer_field 0x02 i) (element_octets 0x30 b), integer_size 0x02 i) in
    short_size 0xA2 (integer_field 0x02 i ++ element_octets 0x30 b) (omega arith) ∙ omega arith

-- 16 octets are enough
pub reply_most : (i : ℕ) (q : Service) (n : ℕ) → length (reply i (code_of_service q) n) ≤ 16
unfolding octet_count fits_octets
reply_most i Probe n = let one : octet_count 0xFFFF_FFFE ≡ 1 = refl in let k = count_within i in omega (arith, reply_size i 0xFFFF_FFFE n)
reply_most i Acknowledge n = let one : octet_count 0xFFFF_FFFD ≡ 1 = refl in let k = count_within i in omega (arith, reply_size i 0xFFFF_FFFD n)
reply_most i Ordinary n = let one : octet_count 0 ≡ 1 = refl in let k = count_within i in omega (arith, reply_size i 0 n)

service_fits : (q : Service) → CodeFits (code_of_service q)
service_fits Probe = let e : 0xFFFF_FFFE < 2 ^ 32 = omega arith in e
service_fits Acknowledge = let e : 0xFFFF_FFFD < 2 ^ 32 = omega arith in e
service_fits Ordinary = let e : 0 < 2 ^ 32 = omega arith in e

module _ (i : ℕ) (q : Service) (n : ℕ) where
  pub reply_short : length (reply i (code_of_service q) n) ≤ octets
  reply_short = omega (arith, reply_most i q n)

  pub reply_reads : Small i → parse (reply i (code_of_service q) n) ≡ Result i (body_of (code_of_service q) (last_part (reply i (code_of_service q) n) (Some (enumerated n))))
  unfolding reply
  reply_reads si = parse_result i (code_of_service q) (Some (enumerated n)) si (service_fits q) (enumerated_well n) reply_short

-- ---- the table

-- a reply passes the result's checks
pub record Passes (T : List ℕ) (c : Code) : Type 0 where
  pub class : is_class 3 5 (class_in T c) ≡ false
  pub right : (n : ℕ) → value_right (result_of (operation_of T c)) (Some (enumerated n)) ≡ true

pub service_passes : (T : List ℕ) (c : Code) (q : Service) → valid T ≡ true → service_of c ≡ q → answers_itself q ≡ true → listed (operation_of T c) ≡ true → Passes T c
unfolding value_right
service_passes T c q v e a l =
    let f = services_right T v c q e a l in
    record { class = classes (or_cases (eqb (class_of (operation_of T c)) 1) (eqb (class_of (operation_of T c)) 2) f.class); right = λ n. rw f.result refl }
  where
    classes : (eqb (class_of (operation_of T c)) 1 ≡ true) ⊎ (eqb (class_of (operation_of T c)) 2 ≡ true) → is_class 3 5 (class_in T c) ≡ false
    classes (inl e) = rw (eqb-true (class_of (operation_of T c)) 1 e)
    classes (inr e) = rw (eqb-true (class_of (operation_of T c)) 2 e)
