-- The header of an integer, and its octets behind it.
use Rattle.std.proofs.Common.{arith}
use Rattle.apdu.proofs.EncodeAnswers.{then_put, integer_by, integer_parts}
use Rattle.ber.proofs.OutputLaws.{stored_as}
use Rattle.apdu.proofs.store.store_integer.Goals as goal

pub store_header-contents_at-requires : goal.store_header-contents_at-requires
store_header-contents_at-requires c = omega (arith, integer_parts c.args.identifier c.args.w c.integer_octets.result c.integer_octets.ensures)

pub returns : goal.returns
returns c =
    let a = c.args in
    let n = c.integer_octets in
    stored_as (integer_by a.identifier a.w n.result n.ensures)
    (then_put c.store_header-contents_at.ensures c.put_integer.ensures
    (omega (arith, integer_parts a.identifier a.w n.result n.ensures)))
