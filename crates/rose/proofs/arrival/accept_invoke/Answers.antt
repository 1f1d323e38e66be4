-- Indicated.
use Rattle.std.proofs.Common.{◌∙◌, sym, refl}
use Rattle.protocol.specs.Receive.{invoke_done}
use Rattle.protocol.specs.Reading.{read_indication}
use Rattle.rose.specs.Usable.{held, table}
use Rattle.rose.proofs.arrival.accept_invoke.Goals as goal

pub returns-in-Ordinary : goal.returns-in-Ordinary
unfolding invoke_done read_indication
returns-in-Ordinary c =
    let h = c.arriving_record.ensures (table c.args.usable.now) (held c.args.usable.now) c.requires in
    rw (sym c.service_of-service.ensures ∙ c.in-Ordinary.is, h) refl
