-- Refusal 15 counts levels inside the value; this is the same as counting them in the APDU: where 9 passes, an APDU to send is within
-- the limits exactly where it has at most 4,096 octets and is well-formed with 16 levels. The laws validate `within_limits`.
use Prim.Native.Nat.{ℕ, zero, suc, ◌+◌, ◌-◌, ◌≤◌, ◌<◌, ◌^◌}
use mathlib.Core.Path.{◌≡◌, refl, sym, ap, ◌∙◌}
use mathlib.Core.Logic.{⊎_elim}
use mathlib.Core.Bool.{Bool, true, false, ◌&&◌, true≢false}
use mathlib.Core.List.{List, [], ◌∷◌, ◌++◌}
use native.Mathlib.Omega.{arith}
use lib.ListN.{length, drop, length-append}
use lib.Seq.{drop-append_seam}
use lib.Dec.{leb}
use borrow.Author.Tests.{leb-true}
use Rattle.codes.specs.declared.Code.{Code}
use Rattle.records.specs.Limits.{octets, levels}
use Rattle.std.specs.Prelude.{Some, Ok, Err, Option, None}
use Rattle.ber.specs.declared.element.Finding.{Finding}
use Rattle.ber.specs.declared.element.Finding.TheVariants.{One, More, Fault}
use Rattle.ber.specs.declared.header.Header.TheVariants.{At}
use Rattle.ber.specs.Header.{one_of, constructed, header_of}
use Rattle.ber.specs.Rule.{content_rule}
use Rattle.ber.specs.Element.{Checked, element_of, contents_of, size, fills, well_formed, finding_in, is_one, is_more, is_fault, element_octets}
use Rattle.ber.proofs.ElementBounds.{good_size, fault_size, element_bounds}
use Rattle.ber.proofs.ElementLaws.{contents_none, contents_cons, contents_fault, well_formed_size, size_well_formed}
use Rattle.ber.proofs.ElementFacts.{Definite, Indefinite, element_facts}
use Rattle.ber.proofs.ElementOctets.{element_octets_length, start_of}
use Rattle.ber.proofs.Locality.{element_append, element_more}
use Rattle.ber.proofs.FaultLaws.{well_formed_finding}
use Rattle.apdu.specs.Encode.{integer_field, code_field, linked_field, value_field, body_field, coded_fields, encode_invoke, encode_result, encode_error}
use Rattle.apdu.proofs.FieldLaws.{header_alone, part_alone, octets_well_formed}
use Rattle.apdu.proofs.FieldRoundTrip.{NumberFits, id_well, linked_well, CodeFits, code_well}
use Rattle.apdu.proofs.RoundTrip.{Free}
use Rattle.protocol.specs.Check.{value_finding, value_well, in_apdu, in_body, within_limits}

drop_all : (v : List ℕ) → drop (length v) v ≡ []
drop_all [] = refl
drop_all (b ∷ v) = drop_all v

-- contents whose first element can only be all of them are one element
contents_one : (d : ℕ) (v : List ℕ) → 1 ≤ length v → ((n : ℕ) → size d v ≡ Some n → n ≡ length v) → contents_of d v ≡ well_formed d v
unfolding well_formed fills
contents_one d v h one = go (element_of d v) refl
  where
    go : (r : Checked) → element_of d v ≡ r → contents_of d v ≡ well_formed d v
    go (Ok n) e =
        let q = good_size d v n e in
        let o = one n q in
        contents_cons d v n q ∙ ap (λ (k : ℕ). contents_of d (drop k v)) o ∙ ap (contents_of d) (drop_all v) ∙ contents_none d ∙ sym (size_well_formed d v (rw o at q))
    go (Err p) e = contents_fault d v p h e ∙ sym (ap (fills (length v)) (fault_size d v p e))

-- a value that is one element with some levels is one with fewer, or no contents
value_contents : (d k : ℕ) (v : List ℕ) → well_formed (d + k) v ≡ true → contents_of d v ≡ well_formed d v
value_contents d k v h = contents_one d v (omega (arith, element_bounds (d + k) v (length v) whole)) (λ n q. let e = more k n q in let w = whole in cc)
  where
    whole : size (d + k) v ≡ Some (length v)
    whole = well_formed_size (d + k) v h

    more : (k n : ℕ) → size d v ≡ Some n → size (d + k) v ≡ Some n
    more zero n q = let e : d + 0 ≡ d = omega arith in rw e q
    more (suc k) n q = let e : d + suc k ≡ suc (d + k) = omega arith in rw e (element_more (d + k) v n (more k n q))

-- contents behind an element
behind : (d : ℕ) (e r : List ℕ) → well_formed d e ≡ true → contents_of d (e ++ r) ≡ contents_of d r
behind d e r f =
    contents_cons d (e ++ r) (length e) (element_append d e r (length e) (well_formed_size d e f)) ∙ ap (contents_of d) (drop-append_seam e r)

-- a constructed element that was written is one where its contents are elements
module _ (t : ℕ) (c : List ℕ) (g : Free t) (k : constructed t ≡ true) (h : length c < 2 ^ 32) where
  written_size : (d n : ℕ) → size d (element_octets t c) ≡ Some n → (n ≡ length (element_octets t c)) × (contents_of (d - 1) c ≡ true)
  written_size d n q = ⊎_elim definite indefinite (element_facts d (element_octets t c) n q)
    where
      e : header_of (element_octets t c) ≡ Some (At t (start_of c) (length (element_octets t c)))
      e = header_alone t c g.one h

      definite : Definite d (element_octets t c) n → (n ≡ length (element_octets t c)) × (contents_of (d - 1) c ≡ true)
      definite f =
          let a : f.id ≡ t = cc (f.header, e) in
          let b : f.a ≡ start_of c = cc (f.header, e) in
          let l : n ≡ length (element_octets t c) = cc (f.header, e) in
          (l, rw (a, k, b, l, part_alone t c g.one h) at f.inside)

      indefinite : Indefinite d (element_octets t c) n → (n ≡ length (element_octets t c)) × (contents_of (d - 1) c ≡ true)
      indefinite f = let z : ◌≡◌ {A = ℕ} 0 1 = cc (f.header, e) in absurd (omega arith)

  well : (d : ℕ) → well_formed (suc d) (element_octets t c) ≡ contents_of d c
  well d = go (contents_of d c) refl
    where
      o : suc d - 1 ≡ d
      o = omega arith

      go : (b : Bool) → contents_of d c ≡ b → well_formed (suc d) (element_octets t c) ≡ b
      go true e = octets_well_formed t c g.one h d (g.rule c) (rw (k, e))
      go false e = refused (well_formed (suc d) (element_octets t c)) refl
        where
          refused : (b : Bool) → well_formed (suc d) (element_octets t c) ≡ b → b ≡ false
          refused false q = refl
          refused true q = sym (rw o at (written_size (suc d) (length (element_octets t c)) (well_formed_size (suc d) (element_octets t c) q)).1) ∙ e

  contents_written : (d : ℕ) → contents_of (suc d) (element_octets t c) ≡ contents_of d c
  contents_written d =
      contents_one (suc d) (element_octets t c) (omega (arith, element_octets_length t c)) (λ n q. (written_size (suc d) n q).0) ∙ well d

-- ---- the value's levels are the APDU's

-- what passes 9 and 21 is one well-formed element, or none
pub passed_well : (v : Option (List ℕ)) → is_fault (value_finding levels v) ≡ false → is_more (value_finding levels v) ≡ false → value_well levels v ≡ true
unfolding value_finding value_well
passed_well None f m = refl
passed_well (Some v) f m = sym (well_formed_finding levels v) ∙ go (finding_in levels v) f m
  where
    go : (x : Finding) → is_fault x ≡ false → is_more x ≡ false → is_one x ≡ true
    go One f m = refl
    go (More at) f m = absurd (true≢false m)
    go (Fault at) f m = absurd (true≢false f)

value_levels : (d k : ℕ) (v : Option (List ℕ)) → value_well (d + k) v ≡ true → contents_of d (value_field v) ≡ value_well d v
unfolding value_well value_field
value_levels d k None h = contents_none d
value_levels d k (Some v) h = value_contents d k v h

coded_levels : (d i : ℕ) (l : Option ℕ) (c : Code) (v : Option (List ℕ)) → i < 2 ^ 32 → NumberFits l → CodeFits c → contents_of (suc d) (coded_fields i l c v) ≡ contents_of (suc d) (value_field v)
unfolding linked_field
coded_levels d i None c v si sl sc =
    behind (suc d) (integer_field 0x02 i) _ (id_well i si d) ∙ behind (suc d) (code_field c) (value_field v) (code_well c sc d)
coded_levels d i (Some l) c v si sl sc =
    behind (suc d) (integer_field 0x02 i) _ (id_well i si d) ∙ behind (suc d) (integer_field 0x80 l) _ (linked_well l sl d)
    ∙ behind (suc d) (code_field c) (value_field v) (code_well c sc d)

body_levels : (c : Code) (v : Option (List ℕ)) → CodeFits c → length (body_field c v) ≤ octets → value_well levels v ≡ true → contents_of 15 (body_field c v) ≡ value_well 14 v
unfolding body_field one_of content_rule constructed value_well
body_levels c None sc n h = contents_none 15
body_levels c (Some v) sc n h =
    contents_written 0x30 (code_field c ++ v) (record { one = refl; rule = λ _. refl }) refl (omega (arith, element_octets_length 0x30 (code_field c ++ v))) 14
    ∙ behind 14 (code_field c) v (code_well c sc 13) ∙ value_contents 14 2 v h

-- ---- 15, of each APDU that a request writes

both : (b x y : Bool) → (b ≡ true → x ≡ y) → (b && x) ≡ (b && y)
both true x y e = e refl
both false x y e = refl

module _ (i : ℕ) (c : Code) (v : Option (List ℕ)) (si : i < 2 ^ 32) (sc : CodeFits c) (nine : value_well levels v ≡ true) where
  coded_within : (t : ℕ) (l : Option ℕ) → NumberFits l → Free t → constructed t ≡ true → within_limits in_apdu v (element_octets t (coded_fields i l c v)) ≡ (leb (length (element_octets t (coded_fields i l c v))) octets && well_formed levels (element_octets t (coded_fields i l c v)))
  unfolding within_limits
  coded_within t l sl g k =
      both (leb (length (element_octets t (coded_fields i l c v))) octets) _ _
      (λ n. sym (well t (coded_fields i l c v) g k (omega (arith, leb-true (length (element_octets t (coded_fields i l c v))) octets n, element_octets_length t (coded_fields i l c v))) 15 ∙ coded_levels 14 i l c v si sl sc ∙ value_levels 15 1 v nine))

  pub invoke_within : (l : Option ℕ) → NumberFits l → within_limits in_apdu v (encode_invoke i l c v) ≡ (leb (length (encode_invoke i l c v)) octets && well_formed levels (encode_invoke i l c v))
  unfolding encode_invoke one_of content_rule constructed
  invoke_within l sl = coded_within 0xA1 l sl (record { one = refl; rule = λ _. refl }) refl

  pub error_within : within_limits in_apdu v (encode_error i c v) ≡ (leb (length (encode_error i c v)) octets && well_formed levels (encode_error i c v))
  unfolding encode_error one_of content_rule constructed
  error_within = coded_within 0xA3 None tt (record { one = refl; rule = λ _. refl }) refl

  pub result_within : within_limits in_body v (encode_result i c v) ≡ (leb (length (encode_result i c v)) octets && well_formed levels (encode_result i c v))
  unfolding within_limits encode_result one_of content_rule constructed
  result_within =
      both (leb (length (element_octets 0xA2 (integer_field 0x02 i ++ body_field c v))) octets) _ _
      (λ n.
      let m = leb-true (length (element_octets 0xA2 (integer_field 0x02 i ++ body_field c v))) octets n in
      let e = element_octets_length 0xA2 (integer_field 0x02 i ++ body_field c v) in
      let a = length-append (integer_field 0x02 i) (body_field c v) in
      sym (well 0xA2 (integer_field 0x02 i ++ body_field c v) (record { one = refl; rule = λ _. refl }) refl (omega arith) 15
      ∙ behind 15 (integer_field 0x02 i) (body_field c v) (id_well i si 14)
      ∙ body_levels c v sc (omega arith) nine))
