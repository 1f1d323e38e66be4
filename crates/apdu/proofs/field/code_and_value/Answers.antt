-- A code, and what is behind it.
use Rattle.std.proofs.Common.{sym, ◌∙◌}
use Rattle.apdu.proofs.CodedAnswers.{coded_behind}
use Rattle.apdu.proofs.field.code_and_value.Goals as goal

pub returns : goal.returns
returns c =
    c.value_behind.ensures
    ∙ coded_behind _ _ _ _ _ c.field.ensures _ c.in_ok-field.was c.requires _ _ c.contents-contents.ensures
    c.number_under-number.ensures _ _ c.whole.ensures c.is_right_field.ensures
    (sym c.is_code.ensures ∙ c.if-not-is_code.false) c.if-not-is_right_field.false _ c.code_of.ensures
