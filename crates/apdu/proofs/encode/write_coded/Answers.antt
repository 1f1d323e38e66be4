-- Header, id, linked id, code and value, one behind the other.
use Rattle.std.proofs.Common.{arith}
use Rattle.base.specs.Lists.{non_empty}
use Rattle.ber.proofs.OutputLaws.{stored_stored, stored_as}
use Rattle.apdu.specs.Encode.{coded_fields}
use Rattle.apdu.proofs.SizeLaws.{element_size, coded_size}
use Rattle.apdu.proofs.EncodeAnswers.{then_put, coded_by, written}
use Rattle.apdu.proofs.encode.write_coded.Goals as goal

pub returns : goal.returns
returns c =
    let a = c.args in
    let n = c.coded_size-contents in
    let e = element_size a.first n.result (coded_fields a.id a.linked a.code (non_empty a.value.now)) n.ensures.value in
    written
    (stored_as (coded_by a.first a.id a.linked a.code a.value.now n.result n.ensures.value)
    (stored_stored c.store_header-id_at.ensures (stored_stored c.store_integer-linked_at.ensures (stored_stored c.store_linked-code_at.ensures
    (then_put c.store_code-value_at.ensures c.put_octets.ensures (omega (arith, coded_size a.id a.linked a.code a.value.now)))))))
    (omega (arith, e)) (omega (arith, e))
