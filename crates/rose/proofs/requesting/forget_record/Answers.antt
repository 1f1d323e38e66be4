-- Refused by 19 or 1, by a later check, or done.
use Rattle.std.proofs.Common.{arith}
use Rattle.std.proofs.lemmas.Grind.{common_steps}
use Rattle.rose.proofs.CheckLaws.{behind}
use Rattle.rose.proofs.Calls.{refused_first, refused_later, forget_done}
use Rattle.rose.proofs.requesting.forget_record.Goals as goal

pub returns-in_err-usable : goal.returns-in_err-usable
returns-in_err-usable c = refused_first _ _ _ _ c.in_err-usable.ensures.checked _ _ _ (grind (arith, common_steps))

pub returns-in_err-check_forget : goal.returns-in_err-check_forget
returns-in_err-check_forget c =
    let u = c.in_ok-usable in
    refused_later _ _ _ u.usable u.ensures.same u.ensures.checked _ c.in_err-check_forget.ensures _ _ _ (grind (arith, common_steps))

pub returns : goal.returns
returns c =
    let u = c.in_ok-usable in
    let h = behind u.usable _ _ u.ensures.same _ u.ensures.checked _ c.in_ok-check_forget.ensures in
    forget_done _ _ _ h _ c.retire.ensures
