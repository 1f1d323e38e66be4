-- The steps between: what private functions answer or ask for. No public function's promise cites them.
use Rattle.std.specs.Prelude.{ℕ, ◌+◌, ◌-◌, ◌≡◌, Bool, true, false, cond, List, Option, Some, None}
use Rattle.records.specs.Limits.{levels}
use Rattle.ber.specs.declared.header.Header.{Header}
use Rattle.ber.specs.declared.header.Header.TheVariants.{At, Open}
use Rattle.ber.specs.declared.element.Frame.{Frame}
use Rattle.ber.specs.declared.element.Finding.{Finding}
use Rattle.ber.specs.declared.element.Finding.TheVariants.{One, More, Fault}
use Rattle.ber.specs.Header.{header_of}
use Rattle.ber.specs.Integer.{octet_count}
use Rattle.ber.specs.Element.{contents_of, frame_of}
use Rattle.base.specs.Octets.{part}
use Rattle.apdu.specs.declared.part.Part.{Part as PartPlaces}
use Rattle.apdu.specs.declared.field.Coded.{Coded as CodedPlaces}
use Rattle.apdu.specs.declared.field.Linked.{Linked as LinkedPlaces}
use Rattle.apdu.specs.declared.Parsed.{Parsed}
use Rattle.apdu.specs.Field.{Part, part_of, Field, fields}
use Rattle.apdu.specs.Parse.{Apdu, badly_structured, unrecognized, mistyped, invoke, result, error, reject, Coded, uncoded, coded, coded_of, linked_of, number_under, invoke_with, invoke_behind}
use Rattle.apdu.specs.Reading.{read_own_link, read_value, read_parsed}
use Rattle.ber.specs.Element.{frame}

-- ---- what is read

-- the frame of a field whose header says where it ends
unfoldable pub definite_frame : Option Header → Option Frame
definite_frame None = None
definite_frame (Some (Open id a)) = None
definite_frame (Some (At id a e)) = Some (frame id a e)

-- a frame found from at on, with places in all of the octets
unfoldable pub moved_frame : ℕ → Option Frame → Option Frame
moved_frame at None = None
moved_frame at (Some f) = Some (frame f.id (at + f.start) (at + f.stop))

-- the part that the code holds by its places
abbrev pub read_part : PartPlaces → Part
read_part p = part_of p.apdu.now p.at p.end

-- the field at the start of the octets from at up to end
unfoldable pub field_at : List ℕ → ℕ → ℕ → Option Frame
field_at s at end = moved_frame at (definite_frame (header_of (part s at end)))

-- the octets from at up to end in the frame of one element
unfoldable pub frame_at : List ℕ → ℕ → ℕ → Option Frame
frame_at s at end = moved_frame at (frame_of (part s at end))

-- what the fields in p say, where p is elements with d levels left; else w
abbrev pub guarded : {B : Type 0} → ℕ → B → (List Field → B) → Part → B
guarded d w F p = cond (contents_of d p.octets) (F (fields d p)) w

-- a code and at most one value, or not
unfoldable pub read_coded : List ℕ → Option CodedPlaces → Coded
read_coded s (Some c) = coded c.code (read_value s c.value)
read_coded s None = uncoded

unfoldable pub is_number : Option ℕ → Bool
is_number (Some w) = true
is_number None = false

-- a code and at most one value in p
abbrev pub coded_in : ℕ → Part → Coded
coded_in d p = guarded d uncoded coded_of p

-- an Invoke behind its id, in p
abbrev pub invoke_in : ℕ → Part → Apdu
invoke_in i p = guarded (levels - 1) (mistyped (Some i)) (λ fs. invoke_behind i (linked_of fs)) p

-- the same with the linked id read, what follows it going up to end
unfoldable pub behind_linked : ℕ → List ℕ → ℕ → Option LinkedPlaces → Apdu
behind_linked i s end (Some l) = invoke_with i (read_own_link l.linked) (coded_in (levels - 1) (part_of s l.next end))
behind_linked i s end None = mistyped (Some i)

-- the same with the number n in the place of the linked id, and p behind it
unfoldable pub behind_number : ℕ → Option ℕ → Part → Apdu
behind_number i None p = mistyped (Some i)
behind_number i (Some l) p = invoke_with i (Some l) (coded_in (levels - 1) p)

-- what stands in the place of an id
unfoldable pub id_in : List ℕ → Option Frame → Option ℕ
id_in s None = None
id_in s (Some f) = number_under 0x02 f.id (part s f.start f.stop)

-- fields are wrong, or the first octet is: whether the octets are well formed decides what it is
unfoldable pub unsettled : Apdu → Bool
unsettled (badly_structured at) = false
unsettled unrecognized = true
unsettled (mistyped i) = true
unsettled (invoke i l c v) = false
unsettled (result i b) = false
unsettled (error i c v) = false
unsettled (reject i k p) = false

-- what was read, by what the octets are found to be
unfoldable pub judge : Finding → Apdu → Apdu
judge One a = a
judge (More at) a = badly_structured at
judge (Fault at) a = badly_structured at

unfoldable pub settle : Finding → Apdu → Apdu
settle f a = cond (unsettled a) (judge f a) a

-- r reads as a where the octets are well formed, and is unsettled elsewhere
pub record Reading (s : List ℕ) (well : Bool) (r : Parsed) (a : Apdu) : Type 0 where
  pub right : well ≡ true → read_parsed s r ≡ a
  pub wrong : well ≡ false → unsettled (read_parsed s r) ≡ true

-- ---- what is written

-- how many octets a number takes that may be missing: those of an integer's element, or of what stands for none
unfoldable pub number_size : ℕ → Option ℕ → ℕ
number_size absent None = absent
number_size absent (Some w) = octet_count w + 2
