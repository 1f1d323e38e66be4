-- Header, id or 05 00, and the problem, one behind the other.
use Rattle.std.proofs.Common.{◌+◌, arith}
use Rattle.ber.proofs.OutputLaws.{stored_stored, stored_as}
use Rattle.apdu.proofs.SizeLaws.{reject_size, reject_most}
use Rattle.apdu.proofs.EncodeAnswers.{then_put, reject_by, reject_lengths, written}
use Rattle.apdu.proofs.encode.write_reject.Goals as goal

pub store_header-id_at-requires : goal.store_header-id_at-requires
store_header-id_at-requires c = omega (arith, reject_lengths c.args.id (c.number_size-contents.result + 3) (omega arith))

pub store_rejected-problem_at-requires : goal.store_rejected-problem_at-requires
store_rejected-problem_at-requires c = omega (arith, reject_lengths c.args.id (c.number_size-contents.result + 3) (omega arith))

pub store_header-number_at-requires : goal.store_header-number_at-requires
store_header-number_at-requires c = omega (arith, reject_lengths c.args.id (c.number_size-contents.result + 3) (omega arith))

pub returns : goal.returns
returns c =
    let a = c.args in
    let n = c.number_size-contents.result + 3 in
    let e = reject_size a.id a.kind a.problem in
    written
    (stored_as (reject_by a.id n (omega arith) a.kind a.problem)
    (stored_stored c.store_header-id_at.ensures (stored_stored c.store_rejected-problem_at.ensures
    (then_put c.store_header-number_at.ensures c.put_octet.ensures (omega (arith, reject_lengths a.id n (omega arith)))))))
    (omega (arith, e, reject_most a.id a.kind a.problem)) (omega (arith, e))
