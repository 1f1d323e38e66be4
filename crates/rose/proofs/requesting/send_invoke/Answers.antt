-- Refused by 19 or 1, by a later check, or sent.
use Rattle.std.proofs.Common.{arith, ap, ◌∙◌}
use Rattle.std.proofs.lemmas.Grind.{common_steps}
use Rattle.protocol.specs.Check.{class_in}
use Rattle.rose.proofs.CheckLaws.{behind}
use Rattle.rose.proofs.Calls.{refused_first, refused_later, invoke_sent}
use Rattle.rose.proofs.requesting.send_invoke.Goals as goal

pub returns-in_err-usable : goal.returns-in_err-usable
returns-in_err-usable c = refused_first _ _ _ _ c.in_err-usable.ensures.checked _ _ _ (grind (arith, common_steps))

pub returns-in_err-class : goal.returns-in_err-class
returns-in_err-class c =
    let u = c.in_ok-usable in
    refused_later _ _ _ u.usable u.ensures.same u.ensures.checked _ c.in_err-class.ensures.checked _ _ _ (grind (arith, common_steps))

pub returns : goal.returns
returns c =
    let u = c.in_ok-usable in
    let h = behind u.usable _ _ u.ensures.same _ u.ensures.checked _ c.in_ok-class.ensures.checked in
    let code = c.args.request.now.code in
    invoke_sent _ _ _ _ _ _ _ _ _ h c.write_invoke-written.ensures _ (c.add_own.ensures _ _ (c.in_ok-class.ensures.class ∙ ap (λ T. class_in T code) u.ensures.same.1))
