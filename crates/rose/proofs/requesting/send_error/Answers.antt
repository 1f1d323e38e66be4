-- Refused by 19 or 1, by a later check, or sent.
use Rattle.std.proofs.Common.{arith}
use Rattle.std.proofs.lemmas.Grind.{common_steps}
use Rattle.rose.proofs.CheckLaws.{behind, answers_same}
use Rattle.rose.proofs.Calls.{refused_first, refused_later, error_sent}
use Rattle.rose.proofs.requesting.send_error.Goals as goal

pub returns-in_err-usable : goal.returns-in_err-usable
returns-in_err-usable c = refused_first _ _ _ _ c.in_err-usable.ensures.checked _ _ _ (grind (arith, common_steps))

pub returns-in_err-answering : goal.returns-in_err-answering
returns-in_err-answering c =
    let u = c.in_ok-usable in
    refused_later _ _ _ u.usable u.ensures.same u.ensures.checked _ c.in_err-answering.ensures.checked _ _ _ (grind (arith, common_steps))

pub returns : goal.returns
returns c =
    let u = c.in_ok-usable in
    let h = behind u.usable _ _ u.ensures.same _ u.ensures.checked _ c.in_ok-answering.ensures.checked in
    let done = answers_same u.usable _ _ u.ensures.same _ _ c.in_ok-answering.ensures.done in
    error_sent _ _ _ _ _ _ c.in_ok-answering.answering done _ c.between.ensures _ _ c.answered.ensures _ _ h c.write_error-written.ensures
