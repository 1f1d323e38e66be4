-- Header, id and body, one behind the other.
use Rattle.std.proofs.Common.{◌+◌, arith}
use Rattle.ber.proofs.OutputLaws.{stored_stored, stored_as}
use Rattle.apdu.proofs.SizeLaws.{result_size}
use Rattle.apdu.proofs.EncodeAnswers.{result_by, written}
use Rattle.apdu.proofs.encode.write_result.Goals as goal

pub returns : goal.returns
returns c =
    let a = c.args in
    let n = c.integer_octets.result + 2 + c.body_size.result in
    let e = result_size a.id.0 a.code a.value.now n (omega arith) in
    written
    (stored_as (result_by a.id.0 a.code a.value.now n (omega arith))
    (stored_stored c.store_header-id_at.ensures (stored_stored c.store_integer-body_at.ensures c.store_body.ensures)))
    (omega (arith, e)) (omega (arith, e))
