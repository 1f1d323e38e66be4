use Rattle.records.proofs.PlaceLaws.{octets_closed}
use Rattle.records.proofs.answers.close_octets.Goals as goal

pub returns : goal.returns
returns c = octets_closed c.args.store.now c.copy_within.new.self c.fill.new.self c.args.place c.requires.store c.requires.within c.copy_within.ensures.after (c.fill.ensures.after (λ y h. h))
