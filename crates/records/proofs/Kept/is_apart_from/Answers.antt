use Rattle.std.proofs.Common.{rules, ◌∙◌, not}
use Rattle.std.proofs.lemmas.Iterator.{YieldsList-from_slice}
use Rattle.std.proofs.lemmas.Iterator.Search.{all_from_yields_List}
use Rattle.records.specs.Records.{view, member}
use Rattle.records.specs.Kept.{kept_places}
use Rattle.records.proofs.IdLaws.{no_place_among}
use Rattle.records.proofs.Kept.is_apart_from.Goals as goal

pub returns : goal.returns
returns c =
    let records = view c.args.records.now in
    all_from_yields_List (λ p. not (member p.id records)) _ _ c.all.result c.all.ensures.ran (YieldsList-from_slice (kept_places c.args.self.now) cc) (λ x b q k. search rules)
    ∙ no_place_among (kept_places c.args.self.now) records
