use Rattle.std.proofs.Common.{rules, ◌∙◌, false, ◌||◌, nat_eq}
use Rattle.std.proofs.lemmas.Iterator.{YieldsList-from_slice}
use Rattle.std.proofs.lemmas.Iterator.Consumers.{fold_from_yields_List}
use Rattle.records.proofs.FoldLaws.{fold_among}
use Rattle.records.proofs.ids.among.Goals as goal

pub returns : goal.returns
returns c =
    fold_from_yields_List _ (λ f x. f || nat_eq x c.args.id) false c.fold.result c.fold.ensures.ran (YieldsList-from_slice c.args.ids.now cc) (λ a x b q k. search rules)
    ∙ fold_among c.args.id c.args.ids.now
