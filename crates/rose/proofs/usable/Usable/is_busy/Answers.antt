-- By the places.
use Rattle.std.proofs.Common.{◌∙◌}
use Rattle.rose.proofs.PlaceLaws.{busy_places}
use Rattle.rose.proofs.usable.Usable.is_busy.Goals as goal

pub returns : goal.returns
returns c =
    let h = rw c.as_slice-live.ensures at c.has_synchronous.ensures in
    h ∙ busy_places c.args.self.now.table.octets.now c.args.self.now.own _ c.args.self.now.own_places
