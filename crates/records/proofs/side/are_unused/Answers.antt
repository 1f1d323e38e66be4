use Rattle.std.proofs.Common.{rules, ◌∙◌, ap, eqb, bit_or}
use Rattle.std.proofs.lemmas.Iterator.{YieldsList-from_slice}
use Rattle.std.proofs.lemmas.Iterator.Consumers.{fold_from_yields_List}
use Rattle.records.specs.Steps.{used}
use Rattle.records.proofs.FoldLaws.{fold_used}
use Rattle.records.proofs.side.are_unused.Goals as goal

pub returns : goal.returns
returns c =
    let places = c.args.places.now in
    ap (λ n. eqb n 0) (fold_from_yields_List _ (λ u r. bit_or u (used r)) 0 c.fold.result c.fold.ensures.ran (YieldsList-from_slice places cc) (λ a x b q k. search rules))
    ∙ fold_used places
