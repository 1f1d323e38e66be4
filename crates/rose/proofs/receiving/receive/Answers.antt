-- Refused, with nothing changed.
use Rattle.std.proofs.Common.{ap, ◌∙◌}
use Rattle.rose.specs.Faults.{fault_in}
use Rattle.rose.proofs.ReceiveLaws.{receive_refused}
use Rattle.rose.proofs.receiving.receive.Goals as goal

pub returns-in-Err : goal.returns-in-Err
returns-in-Err c =
    receive_refused _ _ _ _ _ (record { state = c.take.new.state; store = c.take.new.store }) _ c.in-Err.ensures _ (λ short. c.fault_in.ensures c.args.apdu.now ∙ ap fault_in (c.read-parsed.ensures short)) _ _ c.write_refusal.ensures _ c.place_named.ensures
