use Rattle.std.proofs.Common.{rules, ◌≡◌, ◌-◌, List, ap, length}
use Rattle.records.specs.declared.KeptPlace.{KeptPlace}
use Rattle.records.specs.declared.Kept.{Kept}
use Rattle.records.specs.Limits.{answers}
use Rattle.records.proofs.PlaceLaws.{place_closed}
use Rattle.records.proofs.Kept.close.Goals as goal

pub returns : goal.returns
returns c =
    let full : length c.args.self.now.places ≡ answers = search rules in
    ap {B = Kept} (λ (l : List KeptPlace). record { count = c.args.self.now.count - 1; places = l })
    (place_closed c.args.self.now.places c.copy_within.new.self c.args.place full c.requires.within c.copy_within.ensures.after)
