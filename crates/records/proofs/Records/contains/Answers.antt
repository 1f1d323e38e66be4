use Rattle.std.proofs.Common.{rules, ◌∙◌, false, ◌||◌, nat_eq}
use Rattle.std.proofs.lemmas.Iterator.{YieldsList-from_slice}
use Rattle.std.proofs.lemmas.Iterator.Consumers.{fold_from_yields_List}
use Rattle.records.specs.Records.{view}
use Rattle.records.proofs.FoldLaws.{fold_member}
use Rattle.records.proofs.Records.contains.Goals as goal

pub returns : goal.returns
returns c =
    let live = view c.args.self.now in
    fold_from_yields_List _ (λ f r. f || nat_eq r.id c.args.id) false c.fold.result c.fold.ensures.ran (YieldsList-from_slice live cc) (λ a x b q k. search rules)
    ∙ fold_member c.args.id live
