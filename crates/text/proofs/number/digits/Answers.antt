use Rattle.std.proofs.Common.{rules, arith}
use Rattle.text.specs.Text.{signed_digits}
use Rattle.text.proofs.ShownLaws.{front, signed_text, signed_length}
use Rattle.text.proofs.number.digits.Goals as goal

pub returns : goal.returns
returns c =
    let t = front (signed_digits c.args.bits) c.signed-end.ensures (omega (arith, signed_length c.args.bits)) in
    let u = signed_text c.args.bits in
    search rules
