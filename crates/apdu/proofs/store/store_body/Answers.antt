-- The header of 30, code and value, one behind the other.
use Rattle.std.proofs.Common.{◌+◌, length, arith}
use Rattle.ber.proofs.OutputLaws.{stored_stored, stored_as}
use Rattle.apdu.proofs.SizeLaws.{body_size}
use Rattle.apdu.proofs.EncodeAnswers.{then_put, body_by}
use Rattle.apdu.proofs.store.store_body.Goals as goal

pub returns : goal.returns
returns c =
    let a = c.args in
    let n = c.code_size.result + length a.value.now in
    stored_as (body_by a.code a.value.now n (omega arith) c.if-value-eq0.false)
    (stored_stored c.store_header-code_at.ensures
    (then_put c.store_code-value_at.ensures c.put_octets.ensures
    (omega (arith, body_size a.code a.value.now n c.if-value-eq0.false (omega arith)))))
