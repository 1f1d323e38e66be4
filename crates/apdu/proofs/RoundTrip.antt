-- What is written reads back, for an Invoke, a Result and an Error, within the octets and levels of an APDU.
use Rattle.std.specs.Prelude.{Option, Some, None}
use Prim.Native.Nat.{ℕ, suc, ◌+◌, ◌-◌, ◌^◌, ◌≤◌, ◌<◌}
use mathlib.Core.Path.{◌≡◌, refl, sym, ap, ◌∙◌}
use mathlib.Core.Bool.{Bool, true, cond}
use mathlib.Core.List.{List, [], ◌∷◌, ◌++◌, append-nil}
use native.Mathlib.Omega.{arith}
use lib.ListN.{length, length-append}
use lib.Dec.{eqb}
use Rattle.codes.specs.declared.Code.{Code}
use Rattle.codes.specs.declared.Code.TheVariants.{Local, Global}
use Rattle.records.specs.Limits.{octets, levels}
use Rattle.ber.specs.Header.{one_of, constructed}
use Rattle.ber.specs.Rule.{content_rule}
use Rattle.ber.specs.Element.{contents_of, well_formed, element_octets}
use Rattle.ber.proofs.ElementOctets.{one_octet, start_of, element_octets_length}
use Rattle.apdu.specs.Field.{Part, part_of, Field}
use Rattle.apdu.specs.Parse.{CodedValue, invoke, result, error, number_under, coded_of, linked, unlinked, linked_with, linked_of, invoke_with, invoke_behind, result_with, result_behind, error_behind, behind_id, with_id, by_kind, parse_at, parse}
use Rattle.apdu.specs.Encode.{integer_field, code_field, linked_field, body_field, coded_fields, encode_invoke, encode_result, encode_error}
use Rattle.apdu.proofs.FieldLaws.{concat, AllWell, contents_concat, part_at, field_of, fields_of, fields_concat, frame_alone, part_alone, field_octets, octets_well_formed}
use Rattle.apdu.proofs.FieldRoundTrip.{NumberFits, CodeFits, code_tag, ValueFits, value_list, value_well_lem, value_concat, last_part, place_behind_lem, code_well, code_under, coded_back, integer_under, number_back, id_well, linked_well, id_back}

-- an identifier of one octet under which all contents are right
pub record Free (t : ℕ) : Type 0 where
  pub one : one_octet t ≡ true
  pub rule : (c : List ℕ) → content_rule t c ≡ true

-- an APDU's fields are those that were written, end to end, inside it
pub parse_fields : (t : ℕ) (es : List (List ℕ)) → Free t → constructed t ≡ true → AllWell (levels - 1) es → length (element_octets t (concat es)) ≤ octets
    → parse (element_octets t (concat es)) ≡ by_kind t (fields_of (start_of (concat es)) es)
unfolding parse parse_at
parse_fields t es g k f h =
    let c = concat es in
    let n : length c < 2 ^ 32 = omega (arith, element_octets_length t (concat es)) in
    let i : cond (constructed t) (contents_of 15 c) true ≡ true = ap (λ (b : Bool). cond b (contents_of 15 c) true) k ∙ contents_concat 15 es f in
    rw (octets_well_formed t c g.one n 15 (g.rule c) i, frame_alone t c g.one n)
    (ap (by_kind t) (fields_concat 15 (part_of (element_octets t c) (start_of c) (length (element_octets t c))) es (part_alone t c g.one n) f))

-- ---- A1 and A3

-- the fields of an Invoke or an Error, one list of octets for each
abbrev coded_list : ℕ → Option ℕ → Code → Option (List ℕ) → List (List ℕ)
coded_list i None c v = integer_field 0x02 i ∷ code_field c ∷ value_list v
coded_list i (Some l) c v = integer_field 0x02 i ∷ integer_field 0x80 l ∷ code_field c ∷ value_list v

coded_concat : (i : ℕ) (l : Option ℕ) (c : Code) (v : Option (List ℕ)) → concat (coded_list i l c v) ≡ coded_fields i l c v
unfolding linked_field
coded_concat i None c v = ap (λ (x : List ℕ). integer_field 0x02 i ++ (code_field c ++ x)) (value_concat v)
coded_concat i (Some l) c v = ap (λ (x : List ℕ). integer_field 0x02 i ++ (integer_field 0x80 l ++ (code_field c ++ x))) (value_concat v)

coded_well : (d i : ℕ) (l : Option ℕ) (c : Code) (v : Option (List ℕ)) → i < 2 ^ 32 → NumberFits l → CodeFits c → ValueFits (suc d) v → AllWell (suc d) (coded_list i l c v)
coded_well d i None c v si sl sc f = (id_well i si d, (code_well c sc d, value_well_lem (suc d) v f))
coded_well d i (Some l) c v si sl sc f = (id_well i si d, (linked_well l sl d, (code_well c sc d, value_well_lem (suc d) v f)))

coded_parsed : (t i : ℕ) (l : Option ℕ) (c : Code) (v : Option (List ℕ)) → Free t → constructed t ≡ true → i < 2 ^ 32 → NumberFits l → CodeFits c → ValueFits (levels - 1) v → length (element_octets t (coded_fields i l c v)) ≤ octets
    → parse (element_octets t (coded_fields i l c v)) ≡ by_kind t (fields_of (start_of (concat (coded_list i l c v))) (coded_list i l c v))
coded_parsed t i l c v g k si sl sc f h =
    ap (λ (x : List ℕ). parse (element_octets t x)) (sym (coded_concat i l c v))
    ∙ parse_fields t (coded_list i l c v) g k (coded_well 14 i l c v si sl sc f) (rw (coded_concat i l c v) h)

-- a code in the place of the linked id is no linked id
linked_not : (f : Field) (fs : List Field) (c : Code) → f.identifier ≡ code_tag c → linked_of (f ∷ fs) ≡ linked None (f ∷ fs)
unfolding linked_of
linked_not f fs c e =
    ap (λ (t : ℕ). cond (eqb t 0x80) (linked_with (number_under 0x80 f.identifier f.contents.octets) fs) (cond (eqb t 0x81) (cond (eqb (length f.contents.octets) 0) (linked None fs) unlinked) (linked None (f ∷ fs)))) e
    ∙ by_code c
  where
    by_code : (c : Code) → cond (eqb (code_tag c) 0x80) (linked_with (number_under 0x80 f.identifier f.contents.octets) fs) (cond (eqb (code_tag c) 0x81) (cond (eqb (length f.contents.octets) 0) (linked None fs) unlinked) (linked None (f ∷ fs))) ≡ linked None (f ∷ fs)
    by_code (Local x) = refl
    by_code (Global n) = refl

linked_back : (at l : ℕ) (fs : List Field) → l < 2 ^ 32 → linked_of (field_of at (integer_field 0x80 l) ∷ fs) ≡ linked (Some l) fs
unfolding linked_of linked_with one_of
linked_back at l fs s = rw (number_back l 0x80 s refl at, integer_under l 0x80 s refl at)

-- the fields from a place on, up to the end of x
module _ (x : List ℕ) (at i : ℕ) (c : Code) (v : Option (List ℕ)) (si : i < 2 ^ 32) (sc : CodeFits c) where
  invoke_fields : (l : Option ℕ) → NumberFits l → at + length (concat (coded_list i l c v)) ≡ length x → by_kind 0xA1 (fields_of at (coded_list i l c v)) ≡ invoke i l (Some c) (last_part x v)
  unfolding by_kind with_id behind_id invoke_behind invoke_with
  invoke_fields None sl h =
      let a = at + length (integer_field 0x02 i) in
      rw (id_back i si at, linked_not (field_of a (code_field c)) (fields_of (a + length (code_field c)) (value_list v)) c (code_under c sc a))
      (ap (invoke_with i None) (coded_back x a c v sc (place_behind_lem x at (integer_field 0x02 i) (concat (code_field c ∷ value_list v)) h)))
  invoke_fields (Some l) sl h =
      let a = at + length (integer_field 0x02 i) in
      let b = a + length (integer_field 0x80 l) in
      let fs = code_field c ∷ value_list v in
      rw (id_back i si at, linked_back a l (fields_of b fs) sl)
      (ap (invoke_with i (Some l)) (coded_back x b c v sc (place_behind_lem x a (integer_field 0x80 l) (concat fs) (place_behind_lem x at (integer_field 0x02 i) (integer_field 0x80 l ++ concat fs) h))))

  error_fields : at + length (concat (coded_list i None c v)) ≡ length x → by_kind 0xA3 (fields_of at (coded_list i None c v)) ≡ error i (Some c) (last_part x v)
  unfolding by_kind with_id behind_id error_behind
  error_fields h =
      rw (id_back i si at)
      (ap (error_behind i) (coded_back x (at + length (integer_field 0x02 i)) c v sc (place_behind_lem x at (integer_field 0x02 i) (concat (code_field c ∷ value_list v)) h)))

-- the fields fill the APDU
coded_end : (t i : ℕ) (l : Option ℕ) (c : Code) (v : Option (List ℕ))
    → start_of (concat (coded_list i l c v)) + length (concat (coded_list i l c v)) ≡ length (element_octets t (coded_fields i l c v))
coded_end t i l c v = omega (arith, element_octets_length t (concat (coded_list i l c v)), ap (λ (k : List ℕ). length (element_octets t k)) (coded_concat i l c v))

pub parse_invoke : (i : ℕ) (l : Option ℕ) (c : Code) (v : Option (List ℕ)) → i < 2 ^ 32 → NumberFits l → CodeFits c → ValueFits (levels - 1) v → length (encode_invoke i l c v) ≤ octets
    → parse (encode_invoke i l c v) ≡ invoke i l (Some c) (last_part (encode_invoke i l c v) v)
unfolding encode_invoke one_of content_rule constructed
parse_invoke i l c v si sl sc f h =
    coded_parsed 0xA1 i l c v (record { one = refl; rule = λ _. refl }) refl si sl sc f h
    ∙ invoke_fields (element_octets 0xA1 (coded_fields i l c v)) (start_of (concat (coded_list i l c v))) i c v si sc l sl (coded_end 0xA1 i l c v)

pub parse_error : (i : ℕ) (c : Code) (v : Option (List ℕ)) → i < 2 ^ 32 → CodeFits c → ValueFits (levels - 1) v → length (encode_error i c v) ≤ octets
    → parse (encode_error i c v) ≡ error i (Some c) (last_part (encode_error i c v) v)
unfolding encode_error one_of content_rule constructed
parse_error i c v si sc f h =
    coded_parsed 0xA3 i None c v (record { one = refl; rule = λ _. refl }) refl si tt sc f h
    ∙ error_fields (element_octets 0xA3 (coded_fields i None c v)) (start_of (concat (coded_list i None c v))) i c v si sc (coded_end 0xA3 i None c v)

-- ---- A2

-- a result's code stands only with its value
abbrev pub body_of : Code → Option Part → Option CodedValue
body_of c None = None
body_of c (Some v) = Some (record { code = Some c; value = v })

-- 30 with a code and a value
module _ (c : Code) (v : List ℕ) (s : CodeFits c) (f : well_formed 14 v ≡ true) (n : length (code_field c ++ v) < 2 ^ 32) where
  body_concat : concat (code_field c ∷ v ∷ []) ≡ code_field c ++ v
  body_concat = ap (λ (l : List ℕ). code_field c ++ l) (append-nil v)

  body_well : well_formed 15 (element_octets 0x30 (code_field c ++ v)) ≡ true
  unfolding one_of content_rule constructed
  body_well =
      octets_well_formed 0x30 (code_field c ++ v) refl n 14 refl
      (ap (contents_of 14) (sym body_concat) ∙ contents_concat 14 (code_field c ∷ v ∷ []) (code_well c s 13, (f, tt)))

  body_result : (x : List ℕ) (at i : ℕ) → at + length (element_octets 0x30 (code_field c ++ v)) ≡ length x
      → result_behind i (field_of at (element_octets 0x30 (code_field c ++ v)) ∷ []) ≡ result i (body_of c (last_part x (Some v)))
  unfolding result_behind result_with one_of
  body_result x at i h =
      let b = code_field c ++ v in
      rw (field_octets 0x30 b refl n at)
      (ap (result_with i)
      (ap coded_of (fields_concat 14 (part_at (at + start_of b) b) (code_field c ∷ v ∷ []) (sym body_concat) (code_well c s 13, (f, tt)))
      ∙ coded_back x (at + start_of b) c (Some v) s (omega (arith, element_octets_length 0x30 b, ap length body_concat))))

pub parse_result : (i : ℕ) (c : Code) (v : Option (List ℕ)) → i < 2 ^ 32 → CodeFits c → ValueFits (levels - 2) v → length (encode_result i c v) ≤ octets
    → parse (encode_result i c v) ≡ result i (body_of c (last_part (encode_result i c v) v))
unfolding encode_result body_field one_of content_rule constructed by_kind with_id behind_id result_behind
parse_result i c None si sc f h =
    parse_fields 0xA2 (integer_field 0x02 i ∷ []) (record { one = refl; rule = λ _. refl }) refl (id_well i si 14, tt) h ∙ rw (id_back i si (start_of (integer_field 0x02 i ++ [])))
parse_result i c (Some v) si sc f h =
    let b = element_octets 0x30 (code_field c ++ v) in
    let m = element_octets_length 0xA2 (integer_field 0x02 i ++ b) in
    let k = length-append (integer_field 0x02 i) b in
    let n : length (code_field c ++ v) < 2 ^ 32 = omega (arith, element_octets_length 0x30 (code_field c ++ v)) in
    let es = integer_field 0x02 i ∷ b ∷ [] in
    let e : concat es ≡ integer_field 0x02 i ++ b = ap (λ (l : List ℕ). integer_field 0x02 i ++ l) (append-nil b) in
    let a = start_of (concat es) in
    let z : a + length (integer_field 0x02 i) + length b ≡ length (element_octets 0xA2 (integer_field 0x02 i ++ b)) = rw e (omega arith) in
    ap (λ (l : List ℕ). parse (element_octets 0xA2 l)) (sym e)
    ∙ parse_fields 0xA2 es (record { one = refl; rule = λ _. refl }) refl (id_well i si 14, (body_well c v sc f n, tt)) (rw e h)
    ∙ rw (id_back i si a) (body_result c v sc f n (element_octets 0xA2 (integer_field 0x02 i ++ b)) (a + length (integer_field 0x02 i)) i z)
