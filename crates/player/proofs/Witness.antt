-- Captures that compute: a day that agrees, and days that differ in one place or are refused.
use Prim.Native.Nat.{ℕ, ◌+◌, ◌*◌}
use mathlib.Core.Path.{◌≡◌, refl}
use mathlib.Core.List.{List, [], ◌∷◌, ◌++◌, map}
use lib.ListN.{length}
use Rattle.ber.specs.Header.{number_from, digits, one_of, high_tag, high_tag_behind, high_tag_octets, identifier_octets, constructed, length_of, length_count, length_octets, header_with, header_behind, header_of}
use Rattle.ber.specs.Rule.{shortest, parts, content_rule}
use Rattle.base.specs.Lists.{non_empty}
use Rattle.ber.specs.Element.{closes, found_behind, behind_first, elements_in, filled_behind, closed_behind, made, element_with, element_of, size_in, size, fills, well_formed, finding_with, finding_in, frame_with, frame_of, element_octets}
use Rattle.ber.specs.Integer.{sign_of, pattern, integer_of, fits_octets, octet_count, integer_octets}
use Rattle.base.specs.Count.{every, any}
use Rattle.base.specs.Octets.{zero_filled}
use Rattle.codes.specs.Code.{name_contents, name_of, same_name, name_form, name_right, same_code, code_right}
use Rattle.codes.specs.Count.{seek}
use Rattle.codes.specs.Search.{key_here, key_in}
use Rattle.records.specs.Kept.{keeping, view_kept, pack_kept, pack_store, sound_kept}
use Rattle.optable.specs.Read.{edition, count, start, entry_start, octet_at, key_at, name_here, name_at, code_of as code_held, code_at, idempotent_at, has_code, operation_at, error_at, first_at, second_at}
use Rattle.optable.specs.Service.{service_of}
use Rattle.optable.specs.Validity.{service_at, demands, service_right, partner_right, within_limit, behind, edition_right, filled, laid_out, rule_right, result_right, operation_right, error_right, pair_below, pair_right, allowed, above, rises, same_names, new_name, stands_right, key_right, fields_right, entry_right, part_right, valid}
use Rattle.optable.specs.Lookup.{find, idempotent_of, operation_of, error_of, joins, joined, parent_at, has_child, room_needed}
use Rattle.optable.specs.Value.{value_right}
use Rattle.apdu.specs.Field.{fields_with, fields_by, fields_in}
use Rattle.apdu.specs.Parse.{number_under, is_code, local_code, name_code, code_of, coded_with, coded_of, linked_with, linked_of, invoke_with, invoke_behind, result_with, result_behind, most_problem, is_problem, id_allowed, reject_with, reject_behind, reject_of, behind_id, with_id, by_kind, parse_at, parse, error_behind}
use Rattle.apdu.specs.Inside.{only_frame, inside_at, id_at}
use Rattle.apdu.specs.Encode.{code_field, linked_field, rejected_field, value_field, body_field, encode_invoke, encode_result, encode_error, encode_reject}
use Rattle.protocol.specs.Check.{usable, value_finding, value_well, within_limits}
use Rattle.protocol.specs.Service.{about_in, about, reply, probed, acknowledged, keeps_answers}
use Rattle.protocol.specs.Receive.{fault, invoke_checks, invoke_done, result_checks, error_checks, receive_apdu}
use Rattle.protocol.specs.Perform.{later_checks, done, perform}
use Rattle.capture.specs.Format.{count as capture_count, data_offset, kind_right, zero_right, size_fits, size_right, entry_right as capture_entry_right, headed, data_end, placed, end_to_end, valid as valid_capture}
use Rattle.capture.specs.Entry.{entry_at}
use Rattle.player.specs.Play.{Verdict, agree, differs_at, refused_with, request_of, forget_of, same_octets, agreed, asked, played_as, play_one, play, replay}

-- operation 7 of class 2, argument and optional result of type 02
abbrev table : List ℕ
table =
    0x00 ∷ 0x01 ∷ 0x00 ∷ 0x10 ∷ 0x00 ∷ 0x00 ∷ 0x00 ∷ 0x18 ∷ 0x00 ∷ 0x00 ∷ 0x00 ∷ 0x18 ∷ 0x00 ∷ 0x00 ∷ 0x00 ∷ 0x18
    ∷ 0x00 ∷ 0x00 ∷ 0x00 ∷ 0x07 ∷ 0x02 ∷ 0x02 ∷ 0x02 ∷ 0x02
    ∷ []

-- the same with acknowledge and probe, of class 2
abbrev fetch_table : List ℕ
fetch_table =
    0x00 ∷ 0x03 ∷ 0x00 ∷ 0x10 ∷ 0x00 ∷ 0x00 ∷ 0x00 ∷ 0x28 ∷ 0x00 ∷ 0x00 ∷ 0x00 ∷ 0x28 ∷ 0x00 ∷ 0x00 ∷ 0x00 ∷ 0x28
    ∷ 0xFF ∷ 0xFF ∷ 0xFF ∷ 0xFD ∷ 0x02 ∷ 0x02 ∷ 0x0A ∷ 0x00
    ∷ 0xFF ∷ 0xFF ∷ 0xFF ∷ 0xFE ∷ 0x02 ∷ 0x30 ∷ 0x0A ∷ 0x00
    ∷ 0x00 ∷ 0x00 ∷ 0x00 ∷ 0x07 ∷ 0x02 ∷ 0x02 ∷ 0x02 ∷ 0x02
    ∷ []

-- the first again of edition 2, its code the name 2B 06 01
abbrev named_table : List ℕ
named_table =
    0xFF ∷ 0xFF ∷ 0x00 ∷ 0x02 ∷ 0x00 ∷ 0x01 ∷ 0x00 ∷ 0x18 ∷ 0x00 ∷ 0x00 ∷ 0x00 ∷ 0x20 ∷ 0x00 ∷ 0x00 ∷ 0x00 ∷ 0x20 ∷ 0x00 ∷ 0x00 ∷ 0x00 ∷ 0x20 ∷ 0x00 ∷ 0x01 ∷ 0x00 ∷ 0x20
    ∷ 0x00 ∷ 0x00 ∷ 0x00 ∷ 0x00 ∷ 0x02 ∷ 0x02 ∷ 0x02 ∷ 0x06
    ∷ 0x03 ∷ 0x2B ∷ 0x06 ∷ 0x01 ∷ 0x00 ∷ 0x00 ∷ 0x00 ∷ 0x00 ∷ 0x00 ∷ 0x00 ∷ 0x00 ∷ 0x00 ∷ 0x00 ∷ 0x00 ∷ 0x00 ∷ 0x00 ∷ 0x00
    ∷ []

-- ---- captures of fewer than 256 octets, laid out of entries

record Laid : Type 0 where
  kind : ℕ
  octets : List ℕ

abbrev received : List ℕ → Laid
received x = record { kind = 0; octets = x }

abbrev sent : List ℕ → Laid
sent x = record { kind = 1; octets = x }

abbrev forgot : List ℕ → Laid
forgot x = record { kind = 2; octets = x }

-- the entries of the index, whose data starts there
abbrev index_of : ℕ → List Laid → List ℕ
index_of at [] = []
index_of at (e ∷ l) = e.kind ∷ 0 ∷ 0 ∷ length e.octets ∷ 0 ∷ 0 ∷ 0 ∷ at ∷ index_of (at + length e.octets) l

abbrev data_of : List Laid → List ℕ
data_of [] = []
data_of (e ∷ l) = e.octets ++ data_of l

abbrev laid : List Laid → List ℕ
laid l = let start = 8 + length l * 8 in 0 ∷ 0 ∷ 0 ∷ length l ∷ 0 ∷ 0 ∷ 0 ∷ start ∷ index_of start l ++ data_of l

-- ---- APDUs

-- invocation 1 of operation 7
abbrev asks : List ℕ
asks = 0xA1 ∷ 0x09 ∷ 0x02 ∷ 0x01 ∷ 0x01 ∷ 0x02 ∷ 0x01 ∷ 0x07 ∷ 0x02 ∷ 0x01 ∷ 0x03 ∷ []

-- its result, and its Reject where it comes again
abbrev answers : List ℕ
answers = 0xA2 ∷ 0x0B ∷ 0x02 ∷ 0x01 ∷ 0x01 ∷ 0x30 ∷ 0x06 ∷ 0x02 ∷ 0x01 ∷ 0x07 ∷ 0x02 ∷ 0x01 ∷ 0x0C ∷ []

abbrev refuses : List ℕ
refuses = 0xA4 ∷ 0x06 ∷ 0x02 ∷ 0x01 ∷ 0x01 ∷ 0x82 ∷ 0x01 ∷ 0x00 ∷ []

-- an invocation of operation 9, which is not listed, and its Reject, whose octets are a Reject of an invocation
abbrev asks_other : List ℕ
asks_other = 0xA1 ∷ 0x06 ∷ 0x02 ∷ 0x01 ∷ 0x05 ∷ 0x02 ∷ 0x01 ∷ 0x09 ∷ []

abbrev refuses_other : List ℕ
refuses_other = 0xA4 ∷ 0x06 ∷ 0x02 ∷ 0x01 ∷ 0x05 ∷ 0x81 ∷ 0x01 ∷ 0x01 ∷ []

-- an invocation by name, its result, and one by a name of 17 octets
abbrev asks_named : List ℕ
asks_named = 0xA1 ∷ 0x0B ∷ 0x02 ∷ 0x01 ∷ 0x01 ∷ 0x06 ∷ 0x03 ∷ 0x2B ∷ 0x06 ∷ 0x01 ∷ 0x02 ∷ 0x01 ∷ 0x03 ∷ []

abbrev answers_named : List ℕ
answers_named = 0xA2 ∷ 0x0D ∷ 0x02 ∷ 0x01 ∷ 0x01 ∷ 0x30 ∷ 0x08 ∷ 0x06 ∷ 0x03 ∷ 0x2B ∷ 0x06 ∷ 0x01 ∷ 0x02 ∷ 0x01 ∷ 0x0C ∷ []

abbrev asks_long : List ℕ
asks_long =
    0xA1 ∷ 0x19 ∷ 0x02 ∷ 0x01 ∷ 0x01 ∷ 0x06 ∷ 0x11 ∷ 0x2B ∷ 0x06 ∷ 0x01 ∷ 0x01 ∷ 0x01 ∷ 0x01 ∷ 0x01 ∷ 0x01 ∷ 0x01 ∷ 0x01 ∷ 0x01 ∷ 0x01 ∷ 0x01 ∷ 0x01 ∷ 0x01 ∷ 0x01 ∷ 0x01
    ∷ 0x02 ∷ 0x01 ∷ 0x03
    ∷ []

-- probe 2 about invocation 1, and what it is told; acknowledge 3 of the same, and its result where an answer is dropped
abbrev probes : List ℕ
probes = 0xA1 ∷ 0x0D ∷ 0x02 ∷ 0x01 ∷ 0x02 ∷ 0x02 ∷ 0x01 ∷ 0xFE ∷ 0x30 ∷ 0x05 ∷ 0xA0 ∷ 0x03 ∷ 0x02 ∷ 0x01 ∷ 0x01 ∷ []

abbrev tells : ℕ → List ℕ
tells n = 0xA2 ∷ 0x0B ∷ 0x02 ∷ 0x01 ∷ 0x02 ∷ 0x30 ∷ 0x06 ∷ 0x02 ∷ 0x01 ∷ 0xFE ∷ 0x0A ∷ 0x01 ∷ n ∷ []

abbrev acknowledges : List ℕ
acknowledges = 0xA1 ∷ 0x09 ∷ 0x02 ∷ 0x01 ∷ 0x03 ∷ 0x02 ∷ 0x01 ∷ 0xFD ∷ 0x02 ∷ 0x01 ∷ 0x01 ∷ []

abbrev drops : List ℕ
drops = 0xA2 ∷ 0x0B ∷ 0x02 ∷ 0x01 ∷ 0x03 ∷ 0x30 ∷ 0x06 ∷ 0x02 ∷ 0x01 ∷ 0xFD ∷ 0x0A ∷ 0x01 ∷ 0x00 ∷ []

abbrev forgets : ℕ → List ℕ
forgets side = side ∷ 0x00 ∷ 0x00 ∷ 0x00 ∷ 0x01 ∷ []

-- ---- days, and what is said of them

abbrev days : List (List ℕ)
days =
    laid []
    -- the Reject of a repeated answer is awaited, and found
    ∷ laid (sent asks ∷ received answers ∷ received answers ∷ sent refuses ∷ [])
    -- it is not played as a user reject, which would be refused
    ∷ laid (received asks_other ∷ sent refuses_other ∷ [])
    -- it is missing at the end; it is received, and not sent; it was not called for
    ∷ laid (sent asks ∷ received answers ∷ received answers ∷ [])
    ∷ laid (sent asks ∷ received answers ∷ received answers ∷ received refuses ∷ [])
    ∷ laid (sent asks ∷ received answers ∷ sent refuses ∷ [])
    -- a Reject that nobody can answer goes by: 17
    ∷ laid (received refuses ∷ sent asks ∷ [])
    -- an own invocation is forgotten once; a third side fits no call
    ∷ laid (sent asks ∷ forgot (forgets 0) ∷ forgot (forgets 0) ∷ [])
    ∷ laid (sent asks ∷ forgot (forgets 2) ∷ [])
    -- an id that was answered may be asked with again; one that was forgotten rests, and its late answer leaves it resting
    ∷ laid (sent asks ∷ received answers ∷ sent asks ∷ [])
    ∷ laid (sent asks ∷ forgot (forgets 0) ∷ received answers ∷ sent refuses ∷ sent asks ∷ [])
    -- the id is in use, so that the second entry differs: but the capture has an octet behind the end
    ∷ (laid (sent asks ∷ sent asks ∷ []) ++ (0 ∷ []))
    ∷ []

abbrev verdicts : List Verdict
verdicts = agree 0 ∷ agree 4 ∷ agree 2 ∷ differs_at 3 ∷ differs_at 3 ∷ differs_at 2 ∷ agree 2 ∷ differs_at 2 ∷ differs_at 1 ∷ agree 3 ∷ differs_at 4 ∷ refused_with 20 ∷ []

abbrev named_days : List (List ℕ)
named_days =
    laid (sent asks_named ∷ received answers_named ∷ [])
    ∷ laid (sent asks_long ∷ [])
    ∷ []

-- invocation 1 is performed and answered, and the answer is lost; then entries of the capture
abbrev lost : List Laid → List ℕ
lost l = laid (received asks ∷ sent answers ∷ l)

abbrev fetch_days : List (List ℕ)
fetch_days =
    -- the performer tells the probe finished, sends the kept answer again, and drops it when it is acknowledged
    lost (received probes ∷ sent (tells 1) ∷ sent answers ∷ received acknowledges ∷ sent drops ∷ [])
    -- the invoker's day
    ∷ laid (sent asks ∷ sent probes ∷ received (tells 1) ∷ received answers ∷ sent acknowledges ∷ received drops ∷ [])
    -- what the probe is told is missing, or says running; the kept answer is missing, at the end or before another entry; both are in one entry
    ∷ lost (received probes ∷ [])
    ∷ lost (received probes ∷ sent (tells 0) ∷ sent answers ∷ [])
    ∷ lost (received probes ∷ sent (tells 1) ∷ [])
    ∷ lost (received probes ∷ sent (tells 1) ∷ received acknowledges ∷ sent drops ∷ [])
    ∷ lost (received probes ∷ sent (tells 1 ++ answers) ∷ [])
    -- it is not awaited where the invocation is running, and not kept behind an acknowledge
    ∷ laid (received asks ∷ received probes ∷ sent (tells 0) ∷ sent answers ∷ [])
    ∷ lost (received acknowledges ∷ sent drops ∷ received probes ∷ sent (tells 2) ∷ [])
    ∷ []

abbrev fetch_verdicts : List Verdict
fetch_verdicts = agree 7 ∷ agree 6 ∷ differs_at 3 ∷ differs_at 3 ∷ differs_at 4 ∷ differs_at 4 ∷ differs_at 3 ∷ agree 4 ∷ agree 6 ∷ []

-- the days; those with names; those with probe and acknowledge; one whose name the table lacks; and a wrong table with a malformed capture: 1 before 20
pub replayed : (map (replay table) days ≡ verdicts) × (map (replay named_table) named_days ≡ agree 2 ∷ differs_at 0 ∷ []) × (map (replay fetch_table) fetch_days ≡ fetch_verdicts) × (replay table (laid (sent asks_named ∷ [])) ≡ differs_at 0) × (replay [] [] ≡ refused_with 1)
unfolding keeping view_kept pack_kept pack_store sound_kept service_of service_at demands service_right partner_right idempotent_of room_needed only_frame inside_at id_at about_in about reply probed acknowledged keeps_answers invoke_done name_contents zero_filled name_of same_name name_form name_right same_code code_right key_here key_in edition key_at name_here name_at code_held idempotent_at edition_right filled same_names new_name stands_right key_right local_code name_code code_field pair_below pair_right result_right number_from digits one_of high_tag high_tag_octets identifier_octets length_of length_count length_octets header_with header_of shortest parts content_rule constructed closes found_behind behind_first elements_in filled_behind closed_behind made element_with element_of size_in size fills well_formed finding_with finding_in frame_with frame_of element_octets sign_of pattern integer_of fits_octets octet_count integer_octets every any seek count start entry_start octet_at code_at has_code operation_at error_at first_at second_at within_limit behind laid_out rule_right operation_right error_right allowed above rises fields_right entry_right part_right valid find operation_of error_of joins joined parent_at has_child value_right fields_with fields_by fields_in number_under is_code code_of coded_with coded_of linked_with linked_of invoke_with invoke_behind result_with result_behind error_behind most_problem is_problem id_allowed reject_with reject_behind reject_of behind_id with_id by_kind parse_at parse non_empty linked_field rejected_field value_field body_field encode_invoke encode_result encode_error encode_reject usable value_finding value_well within_limits fault invoke_checks result_checks error_checks receive_apdu later_checks done perform capture_count data_offset kind_right zero_right size_fits size_right capture_entry_right headed data_end placed end_to_end valid_capture entry_at request_of forget_of same_octets agreed asked played_as play_one play replay high_tag_behind header_behind
replayed = (refl, refl, refl, refl, refl)
