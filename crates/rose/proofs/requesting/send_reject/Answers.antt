-- Refused by 19 or 1, by a later check, or sent.
use Rattle.std.proofs.Common.{arith}
use Rattle.std.proofs.lemmas.Grind.{common_steps}
use Rattle.rose.proofs.CheckLaws.{behind}
use Rattle.rose.proofs.Calls.{refused_first, refused_later, reject_done}
use Rattle.rose.proofs.requesting.send_reject.Goals as goal

pub returns-in_err-usable : goal.returns-in_err-usable
returns-in_err-usable c = refused_first _ _ _ _ c.in_err-usable.ensures.checked _ _ _ (grind (arith, common_steps))

pub returns-in_err-check_reject : goal.returns-in_err-check_reject
returns-in_err-check_reject c =
    let u = c.in_ok-usable in
    refused_later _ _ _ u.usable u.ensures.same u.ensures.checked _ c.in_err-check_reject.ensures _ _ _ (grind (arith, common_steps))

pub returns : goal.returns
returns c =
    let u = c.in_ok-usable in
    let h = behind u.usable _ _ u.ensures.same _ u.ensures.checked _ c.in_ok-check_reject.ensures in
    reject_done _ _ _ _ _ _ _ h c.write_reject-written.ensures _ c.take_out.ensures
