use Rattle.std.proofs.Common.{rules, arith}
use Rattle.text.specs.Text.{each, octet_shown}
use Rattle.text.proofs.ShownLaws.{front, octets_text, octets_length}
use Rattle.text.proofs.hex.digits.Goals as goal

pub returns : goal.returns
returns c =
    let t = front (each (octet_shown c.args.is_spaced) c.args.few.now) c.octets_shown-end.ensures (omega (arith, octets_length c.args.is_spaced c.args.few.now)) in
    let u = octets_text c.args.is_spaced c.args.few.now (λ i. omega (arith, c.type_inv.few i)) in
    search rules
