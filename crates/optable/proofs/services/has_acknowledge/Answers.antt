-- Operation i stands where it is read, and is acknowledge.
use Rattle.std.proofs.Common.{◌*◌, ◌+◌, ap, sym, ◌∙◌, arith}
use Rattle.optable.specs.Read.{header_of}
use Rattle.optable.proofs.LayoutLaws.{class_inside, operation_entry}
use Rattle.optable.proofs.ServiceAnswers.{acknowledge_found}
use Rattle.optable.proofs.services.has_acknowledge.Goals as goal

pub key_within-key-requires : goal.key_within-key-requires
key_within-key-requires c = class_inside _ c.requires.laid _ (c.header_of-first.ensures ∙ ap header_of c.requires.same_edition) _ (omega arith)

pub returns-then-is_local : goal.returns-then-is_local
returns-then-is_local c =
    let first = c.header_of-first.ensures ∙ ap header_of c.requires.same_edition in
    let here = ap (λ x. x + c.loop-i.i * 8) first ∙ sym (operation_entry _ c.requires.laid c.loop-i.i) in
    acknowledge_found _ c.loop-i.i here c.key_within-key.ensures.value c.is_local.ensures (omega arith) c.if-is_local.true
