use Rattle.std.proofs.Common.{rules, ◌∙◌, not}
use Rattle.std.proofs.lemmas.Iterator.{YieldsList-from_slice}
use Rattle.std.proofs.lemmas.Iterator.Search.{all_from_yields_List}
use Rattle.records.specs.Numbers.{among}
use Rattle.records.specs.Resting.{view_ids}
use Rattle.records.proofs.IdLaws.{none_of_records}
use Rattle.records.proofs.Resting.is_apart_from.Goals as goal

pub returns : goal.returns
returns c =
    let resting = view_ids c.args.self.now in
    all_from_yields_List (λ r. not (among r.id resting)) _ _ c.all.result c.all.ensures.ran (YieldsList-from_slice c.args.records.now cc) (λ x b q k. search rules)
    ∙ none_of_records resting c.args.records.now
