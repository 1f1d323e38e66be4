-- The header of a 06, and the name behind it.
use Rattle.std.proofs.Common.{ℕ, List, ◌∷◌, length, refl, ap, ◌∙◌, arith, length-append}
use Rattle.ber.specs.Header.{length_octets}
use Rattle.ber.proofs.OutputLaws.{stored_as}
use Rattle.ber.specs.Element.{element_octets}
use Rattle.apdu.proofs.EncodeAnswers.{then_put, element_by}
use Rattle.apdu.proofs.store.store_name.Goals as goal

pub store_header-contents_at-requires : goal.store_header-contents_at-requires
store_header-contents_at-requires c =
    let n = c.contents-contents.result.now in
    let whole = element_by 0x06 (length n) n refl in
    omega (arith, ap length whole, length-append (0x06 ∷ length_octets (length n)) n, ap (λ (s : List ℕ). length (element_octets 0x06 s)) c.contents-contents.ensures.value)

pub returns : goal.returns
returns c =
    let n = c.contents-contents.result.now in
    let whole = element_by 0x06 (length n) n refl in
    let named = ap (element_octets 0x06) c.contents-contents.ensures.value in
    stored_as (whole ∙ named) (then_put c.store_header-contents_at.ensures c.put_octets.ensures
    (omega (arith, ap length whole, length-append (0x06 ∷ length_octets (length n)) n, ap length named)))
