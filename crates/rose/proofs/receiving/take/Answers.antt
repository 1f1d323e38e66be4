-- Refused by 19 or 1, by a later check, indicated or answered.
use Rattle.std.proofs.Common.{arith, Ok, Err}
use Rattle.std.proofs.lemmas.Grind.{common_steps}
use Rattle.rose.proofs.CheckLaws.{performed}
use Rattle.rose.proofs.ReceiveLaws.{takes_first, takes_refused, receive_indicated, receive_answered}
use Rattle.rose.proofs.receiving.take.Goals as goal

pub returns-in_err-usable : goal.returns-in_err-usable
returns-in_err-usable c = takes_first _ _ _ _ _ c.in_err-usable.ensures.checked _ (grind (arith, common_steps))

pub returns-in_err-arrival : goal.returns-in_err-arrival
returns-in_err-arrival c =
    let u = c.in_ok-usable in
    takes_refused _ _ _ _ c.in_err-arrival.field-0.0 (performed u.usable _ _ u.ensures.same _ u.ensures.checked c.args.x.now (Err c.in_err-arrival.field-0.0) c.in_err-arrival.ensures) _ (grind (arith, common_steps))

pub returns-in-Indicated : goal.returns-in-Indicated
returns-in-Indicated c =
    let u = c.in_ok-usable in
    receive_indicated _ _ _ _ _ _ _ c.make.ensures _ _ c.in-Indicated.is (performed u.usable _ _ u.ensures.same _ u.ensures.checked c.args.x.now (Ok c.in_ok-arrival.arrival) c.in_ok-arrival.ensures)

pub returns-in-Answered : goal.returns-in-Answered
returns-in-Answered c =
    let u = c.in_ok-usable in
    receive_answered _ _ _ _ _ _ _ c.make-in-Answered.ensures _ _ c.in-Answered.is (performed u.usable _ _ u.ensures.same _ u.ensures.checked c.args.x.now (Ok c.in_ok-arrival.arrival) c.in_ok-arrival.ensures) _ _ c.write_reply-written.ensures
