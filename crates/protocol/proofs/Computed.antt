-- What computes, with one list of what is unfolded: P1 to P12, the runs of Witness.antt, and the premises of what is shown was given for two of them.
use mathlib.Core.Path.{◌≡◌, refl}
use mathlib.Core.Bool.{true, false}
use mathlib.Core.List.Memᴰ.{head as here}
use mathlib.Core.List.Memᴰ.{tail as there}
use mathlib.Core.List.{map}
use lib.Dec.{lit<, lit≤}
use Rattle.records.specs.Kept.{keeping, view_kept, pack_kept, pack_store, sound_kept}
use Rattle.records.specs.Held.{fresh_held}
use Rattle.ber.specs.Header.{number_from, digits, one_of, high_tag, high_tag_behind, high_tag_octets, identifier_octets, constructed, length_of, length_count, length_octets, header_with, header_behind, header_of}
use Rattle.ber.specs.Rule.{shortest, parts, content_rule}
use Rattle.base.specs.Lists.{non_empty}
use Rattle.ber.specs.Element.{closes, found_behind, behind_first, elements_in, filled_behind, closed_behind, made, element_with, element_of, size_in, size, fills, well_formed, finding_with, finding_in, frame_with, frame_of, element_octets}
use Rattle.ber.specs.Integer.{sign_of, pattern, integer_of, fits_octets, octet_count, integer_octets}
use Rattle.base.specs.Count.{every, any}
use Rattle.base.specs.Octets.{zero_filled}
use Rattle.codes.specs.Code.{name_contents, name_of, same_name, name_form, name_right, same_code, code_right}
use Rattle.codes.specs.Count.{seek}
use Rattle.codes.specs.Search.{key_here, key_in}
use Rattle.optable.specs.Read.{edition, count, start, entry_start, octet_at, key_at, name_here, name_at, code_of as code_held, code_at, idempotent_at, has_code, operation_at, error_at, first_at, second_at}
use Rattle.optable.specs.Service.{service_of}
use Rattle.optable.specs.Validity.{service_at, demands, service_right, partner_right, within_limit, behind, edition_right, filled, laid_out, rule_right, result_right, operation_right, error_right, pair_below, pair_right, allowed, above, rises, same_names, new_name, stands_right, key_right, fields_right, entry_right, part_right, valid}
use Rattle.optable.specs.Lookup.{Extends, find, idempotent_of, operation_of, error_of, joins, joined, parent_at, has_child, room_needed}
use Rattle.optable.specs.Extension.{same_rule, same_operation, same_error, pair_in, entry_in, missing_at, first_missing, part_extension, extension}
use Rattle.optable.proofs.ExtensionLaws.{complete_extends}
use Rattle.optable.specs.Value.{value_right}
use Rattle.apdu.specs.Field.{fields_with, fields_by, fields_in}
use Rattle.apdu.specs.Parse.{number_under, is_code, local_code, name_code, code_of, coded_with, coded_of, linked_with, linked_of, invoke_with, invoke_behind, result_with, result_behind, most_problem, is_problem, id_allowed, reject_with, reject_behind, reject_of, behind_id, with_id, by_kind, parse_at, parse, error_behind}
use Rattle.apdu.specs.Inside.{only_frame, inside_at, id_at}
use Rattle.apdu.specs.Encode.{code_field, linked_field, rejected_field, value_field, body_field, encode_invoke, encode_result, encode_error, encode_reject}
use Rattle.protocol.specs.Check.{usable, value_finding, value_well, within_limits}
use Rattle.protocol.specs.Service.{about_in, about, reply, probed, acknowledged, keeps_answers}
use Rattle.protocol.specs.Receive.{fault, invoke_checks, invoke_done, result_checks, error_checks, receive_apdu}
use Rattle.protocol.specs.Perform.{later_checks, done, perform}
use Rattle.protocol.specs.Marked.{MarkedHold}
use Rattle.protocol.specs.Book.{begin, final, Along, answer_to}
use Rattle.protocol.specs.ShownWasGiven.{Fair, UsesIdsOnce}
use Rattle.protocol.proofs.WitnessTables.{table_o, table_n, table_g, table_h, table_f}
use Rattle.protocol.proofs.Witness.{named1, good, named, runs, told, tells}
use Rattle.protocol.proofs.Fetching.{fetching, fetches, fetched}

pub record Computed : Type 0 where
  -- P1 to P12 hold of the written definitions
  pub marked : MarkedHold
  pub run : map tells runs ≡ told
  pub fetch : map tells fetches ≡ fetched
  -- the premises of what is shown was given
  pub old_valid : valid table_o ≡ true
  pub new_valid : valid table_n ≡ true
  pub extends : Extends table_n table_o
  pub fair : Along table_o table_n (Fair table_o) (begin fresh_held) good
  pub once : UsesIdsOnce (final table_o table_n (begin fresh_held) good)
  -- the same with names: the controller numbers them otherwise, and marks idempotent what the kiosk does not
  pub old_named : valid table_g ≡ true
  pub new_named : valid table_h ≡ true
  pub extends_named : Extends table_h table_g
  pub marks_otherwise : (idempotent_of table_g named1 ≡ false) × (idempotent_of table_h named1 ≡ true)
  pub fair_named : Along table_g table_h (Fair table_g) (begin fresh_held) named
  pub once_named : UsesIdsOnce (final table_g table_h (begin fresh_held) named)
  -- and of an answer that is lost and fetched; what the controller writes itself is carried
  pub valid_fetching : valid table_f ≡ true
  pub fair_fetching : Along table_f table_f (Fair table_f) (begin fresh_held) fetching
  pub once_fetching : UsesIdsOnce (final table_f table_f (begin fresh_held) fetching)

pub computed : Computed
unfolding keeping view_kept pack_kept pack_store sound_kept service_of service_at demands service_right partner_right room_needed only_frame inside_at id_at about_in about reply probed acknowledged keeps_answers invoke_done answer_to name_contents zero_filled name_of same_name name_form name_right same_code code_right key_here key_in edition key_at name_here name_at code_held idempotent_at edition_right filled same_names new_name stands_right key_right idempotent_of same_rule same_operation same_error pair_in entry_in missing_at first_missing part_extension extension local_code name_code code_field pair_below pair_right result_right number_from digits one_of high_tag high_tag_octets identifier_octets length_of length_count length_octets header_with header_of shortest parts content_rule constructed closes found_behind behind_first elements_in filled_behind closed_behind made element_with element_of size_in size fills well_formed finding_with finding_in frame_with frame_of element_octets sign_of pattern integer_of fits_octets octet_count integer_octets every any seek count start entry_start octet_at code_at has_code operation_at error_at first_at second_at within_limit behind laid_out rule_right operation_right error_right allowed above rises fields_right entry_right part_right valid find operation_of error_of joins joined parent_at has_child value_right fields_with fields_by fields_in number_under is_code code_of coded_with coded_of linked_with linked_of invoke_with invoke_behind result_with result_behind error_behind most_problem is_problem id_allowed reject_with reject_behind reject_of behind_id with_id by_kind parse_at parse non_empty linked_field rejected_field value_field body_field encode_invoke encode_result encode_error encode_reject usable value_finding value_well within_limits fault invoke_checks result_checks error_checks receive_apdu later_checks done perform high_tag_behind header_behind
computed = record {
  marked = refl;
  run = refl;
  fetch = refl;
  old_valid = refl;
  new_valid = refl;
  extends = ((complete_extends table_n table_o true refl).said_true refl).1.1;
  fair = (((lit< tt, lit< tt, tt), tt, tt), ((tt, (here refl), tt), ((lit< tt, tt, tt), ((tt, (there (here refl)), lit≤ tt), ((tt, (there (here refl)), lit≤ tt), (((lit< tt, lit< tt, tt), tt, tt), ((tt, (there (there (there (here refl)))), tt), (((lit< tt, lit< tt), tt, tt), ((tt, (there (there (there (there (here refl))))), lit≤ tt), (((lit< tt, lit< tt, tt), tt, tt), ((tt, (there (there (there (there (there (here refl)))))), tt), ((lit< tt, tt, tt), ((tt, (there (there (there (there (there (there (here refl))))))), lit≤ tt), (((lit< tt, lit< tt, tt), tt, tt), ((tt, (there (there (there (there (there (there (there (here refl)))))))), tt), (((lit< tt, lit< tt), tt, tt), ((tt, (there (there (there (there (there (there (there (there (here refl))))))))), lit≤ tt), (((lit< tt, lit< tt, tt), tt, tt), ((tt, (there (there (there (there (there (there (there (there (there (there (here refl))))))))))), tt), (((lit< tt, lit< tt), tt, tt), ((tt, (there (there (there (there (there (there (there (there (there (there (there (here refl)))))))))))), lit≤ tt), tt)))))))))))))))))))));
  once = refl;
  old_named = refl;
  new_named = refl;
  extends_named = ((complete_extends table_h table_g true refl).said_true refl).1.1;
  marks_otherwise = (refl, refl);
  fair_named = (((lit< tt, tt, tt), tt, tt), ((tt, (here refl), tt), ((lit< tt, tt, tt), ((tt, (there (here refl)), lit≤ tt), (((lit< tt, tt, tt), tt, tt), ((tt, (there (there (here refl))), tt), (((lit< tt, tt), tt, tt), ((tt, (there (there (there (here refl)))), lit≤ tt), (((lit< tt, tt, tt), tt, tt), tt)))))))));
  once_named = refl;
  valid_fetching = refl;
  fair_fetching = (((lit< tt, lit< tt, tt), tt, tt), ((tt, (here refl), tt), (((lit< tt, lit< tt, tt), tt, tt), ((tt, (there (here refl)), tt), ((tt, (there (there (here refl))), lit≤ tt), ((lit< tt, tt, tt), (((lit< tt, lit< tt, tt), tt, tt), (((lit< tt, lit< tt, tt), tt, tt), ((tt, (there (there (there (there (here refl))))), tt), ((tt, (there (there (there (there (there (here refl)))))), lit≤ tt), ((tt, (there (there (there (here refl)))), lit≤ tt), ((tt, (there (there (there (here refl)))), lit≤ tt), (((lit< tt, lit< tt, tt), tt, tt), ((tt, (there (there (there (there (there (there (there (there (here refl))))))))), tt), ((tt, (there (there (there (there (there (there (there (there (there (here refl)))))))))), lit≤ tt), (((lit< tt, lit< tt, tt), tt, tt), ((tt, (there (there (there (there (there (there (there (there (there (there (here refl))))))))))), tt), ((tt, (there (there (there (there (there (there (there (there (there (there (there (here refl)))))))))))), lit≤ tt), (((lit< tt, lit< tt, tt), tt, tt), ((tt, (there (there (there (there (there (there (there (there (there (there (there (there (here refl))))))))))))), tt), ((tt, (there (there (there (there (there (there (there (there (there (there (there (there (there (here refl)))))))))))))), lit≤ tt), (((lit< tt, lit< tt, tt), tt, tt), ((tt, (there (there (there (there (there (there (there (there (there (there (there (there (there (there (here refl))))))))))))))), tt), (((lit< tt, lit< tt, tt), tt, tt), ((tt, (there (there (there (there (there (there (there (there (there (there (there (there (there (there (there (there (here refl))))))))))))))))), tt), tt)))))))))))))))))))))))));
  once_fetching = refl;
}
