-- What a received APDU says: 'The four APDUs', and step 1 of 'Receiving'.
use Rattle.std.specs.Prelude.{ℕ, ◌-◌, Bool, true, cond, ◌&&◌, ◌||◌, List, [], ◌∷◌, length, get_or, eqb, leb, Option, Some, None}
use Rattle.codes.specs.declared.Code.{Code}
use Rattle.codes.specs.declared.Code.TheVariants.{Local, Global}
use Rattle.codes.specs.Code.{name_of}
use Rattle.records.specs.Limits.{levels}
use Rattle.ber.specs.declared.element.Frame.{Frame}
use Rattle.ber.specs.Integer.{integer_of}
use Rattle.ber.specs.Element.{well_formed, place, frame_of}
use Rattle.apdu.specs.Field.{Part, part_of, Field, fields}

-- a code and its value, the whole element
pub record CodedValue : Type 0 where
  pub code : Option Code
  pub value : Part

-- the value beside a result's code, if there is one
abbrev pub body_value : Option CodedValue → Option Part
body_value None = None
body_value (Some b) = Some b.value

-- ids are 32-bit patterns; a value is a part of the lent octets; no value and no linked id are none, and so is a code that equals no table code
pub data Apdu : Type 0 where
  -- not well formed: general 2; the place of the first fault
  badly_structured : ℕ → Apdu
  -- first octet not A1 to A4: general 0
  unrecognized : Apdu
  -- fields wrong: general 1, with the id that a Reject to it carries
  mistyped : Option ℕ → Apdu
  -- id, linked id, code, value
  invoke : ℕ → Option ℕ → Option Code → Option Part → Apdu
  -- id, and code with value
  result : ℕ → Option CodedValue → Apdu
  -- id, code, value
  error : ℕ → Option Code → Option Part → Apdu
  -- id, the problem's identifier 80 to 83, the problem
  reject : Option ℕ → ℕ → ℕ → Apdu

-- ---- the fields

-- an integer of 1 to 4 content octets in shortest form, under the identifier t: an id is 02, a linked id 80
unfoldable pub number_under : ℕ → ℕ → List ℕ → Option ℕ
number_under t identifier c = cond (eqb identifier t) (integer_of c) None

-- id is 02 with 1 to 4 content octets
abbrev pub id_of : Field → Option ℕ
id_of f = number_under 0x02 f.identifier f.contents.octets

-- a code is 02 or 06
unfoldable pub is_code : ℕ → Bool
is_code identifier = eqb identifier 0x02 || eqb identifier 0x06

-- an 02 of 1 to 4 octets is a local code
unfoldable pub local_code : Option ℕ → Option Code
local_code (Some w) = Some (Local w)
local_code None = None

-- a 06 of at most 16 octets is a name
unfoldable pub name_code : List ℕ → Option Code
name_code c = cond (leb (length c) 16) (Some (Global (name_of c))) None

-- a longer 02 or 06 equals no table code
unfoldable pub code_of : ℕ → List ℕ → Option Code
code_of identifier c = cond (eqb identifier 0x06) (name_code c) (local_code (number_under 0x02 identifier c))

-- a code and at most one value, or not
pub data Coded : Type 0 where
  uncoded : Coded
  coded : Option Code → Option Part → Coded

-- nothing follows the one value
unfoldable pub coded_with : Option Code → List Field → Coded
coded_with c [] = coded c None
coded_with c (v ∷ []) = coded c (Some v.whole)
coded_with c (v ∷ w ∷ fs) = uncoded

unfoldable pub coded_of : List Field → Coded
coded_of [] = uncoded
coded_of (f ∷ fs) = cond (is_code f.identifier) (coded_with (code_of f.identifier f.contents.octets) fs) uncoded

-- an optional linked id and what follows it, or not
pub data Linked : Type 0 where
  unlinked : Linked
  linked : Option ℕ → List Field → Linked

-- an 80 that is no number of 1 to 4 octets is a wrong field
unfoldable pub linked_with : Option ℕ → List Field → Linked
linked_with None fs = unlinked
linked_with (Some l) fs = linked (Some l) fs

-- 80 (linked id) or 81 00 (linked id absent, same as none)
unfoldable pub linked_of : List Field → Linked
linked_of [] = linked None []
linked_of (f ∷ fs) =
    cond (eqb f.identifier 0x80) (linked_with (number_under 0x80 f.identifier f.contents.octets) fs)
    (cond (eqb f.identifier 0x81) (cond (eqb (length f.contents.octets) 0) (linked None fs) unlinked)
    (linked None (f ∷ fs)))

-- ---- A1 Invoke, behind the id: optional linked id; code; at most one value

unfoldable pub invoke_with : ℕ → Option ℕ → Coded → Apdu
invoke_with i l uncoded = mistyped (Some i)
invoke_with i l (coded c v) = invoke i l c v

unfoldable pub invoke_behind : ℕ → Linked → Apdu
invoke_behind i unlinked = mistyped (Some i)
invoke_behind i (linked l fs) = invoke_with i l (coded_of fs)

-- ---- A2 ReturnResult, behind the id: nothing, or 30 holding code and exactly one value

unfoldable pub result_with : ℕ → Coded → Apdu
result_with i uncoded = mistyped (Some i)
result_with i (coded c None) = mistyped (Some i)
result_with i (coded c (Some v)) = result i (Some (record { code = c; value = v }))

unfoldable pub result_behind : ℕ → List Field → Apdu
result_behind i [] = result i None
result_behind i (f ∷ []) = cond (eqb f.identifier 0x30) (result_with i (coded_of (fields (levels - 2) f.contents))) (mistyped (Some i))
result_behind i (f ∷ g ∷ fs) = mistyped (Some i)

-- ---- A3 ReturnError, behind the id: code; at most one value

unfoldable pub error_behind : ℕ → Coded → Apdu
error_behind i uncoded = mistyped (Some i)
error_behind i (coded c v) = error i c v

-- ---- A4 Reject: id or 05 00; a problem

-- 80 general (0 to 2), 81 invoke (0 to 7), 82 result (0 to 2), 83 error (0 to 4)
unfoldable pub most_problem : ℕ → ℕ
most_problem kind = cond (eqb kind 0x81) 7 (cond (eqb kind 0x83) 4 2)

-- contents one octet
unfoldable pub is_problem : ℕ → List ℕ → Bool
is_problem kind c = leb 0x80 kind && (leb kind 0x83 && (eqb (length c) 1 && leb (get_or c 0 0) (most_problem kind)))

-- an id; or 05 00, which stands only with 80
unfoldable pub id_allowed : Option ℕ → ℕ → ℕ → Bool
id_allowed (Some i) identifier kind = true
id_allowed None identifier kind = eqb identifier 0x05 && eqb kind 0x80

-- the id n, or what stands in its place under its identifier, and a problem
unfoldable pub reject_with : Option ℕ → ℕ → ℕ → List ℕ → Apdu
reject_with n identifier kind c =
    cond (is_problem kind c && id_allowed n identifier kind) (reject n kind (get_or c 0 0)) (mistyped None)

-- nothing follows the one problem
unfoldable pub reject_behind : Option ℕ → ℕ → List Field → Apdu
reject_behind n identifier [] = mistyped None
reject_behind n identifier (g ∷ []) = reject_with n identifier g.identifier g.contents.octets
reject_behind n identifier (g ∷ h ∷ fs) = mistyped None

unfoldable pub reject_of : List Field → Apdu
reject_of [] = mistyped None
reject_of (f ∷ fs) = reject_behind (id_of f) f.identifier fs

-- ---- the whole

-- A1 to A3 behind a right id, by the first octet
unfoldable pub behind_id : ℕ → Option ℕ → List Field → Apdu
behind_id t None fs = mistyped None
behind_id t (Some i) fs =
    cond (eqb t 0xA1) (invoke_behind i (linked_of fs)) (cond (eqb t 0xA2) (result_behind i fs) (error_behind i (coded_of fs)))

-- fields wrong in A1 to A3 carry the id if the first element inside is a right id
unfoldable pub with_id : ℕ → List Field → Apdu
with_id t [] = mistyped None
with_id t (f ∷ fs) = behind_id t (id_of f) fs

-- the fields inside, by the first octet
unfoldable pub by_kind : ℕ → List Field → Apdu
by_kind t fs = cond (leb 0xA1 t && leb t 0xA3) (with_id t fs) (cond (eqb t 0xA4) (reject_of fs) unrecognized)

-- the element in this frame: the fields among its contents, by its first octet
unfoldable pub parse_at : List ℕ → Option Frame → Apdu
parse_at x None = badly_structured (place levels x)
parse_at x (Some f) = by_kind f.id (fields (levels - 1) (part_of x f.start f.stop))

-- an APDU is one element filling the input
unfoldable pub parse : List ℕ → Apdu
parse x = cond (well_formed levels x) (parse_at x (frame_of x)) (badly_structured (place levels x))
