-- By what is changed.
use Rattle.std.proofs.Common.{◌∙◌, sym, ap}
use Rattle.records.specs.Held.{Held}
use Rattle.rose.specs.Changes.{after}
use Rattle.rose.proofs.ChangeLaws.{answer_dropped, answer_added}
use Rattle.rose.proofs.change.Change.make.Goals as goal

pub returns-in-Adds : goal.returns-in-Adds
returns-in-Adds c = λ h.
    let s : Held = record { state = c.args.state.now; store = c.args.store.now } in
    answer_added s c.drop_answer.ensures.places h _ _ c.in-Adds.id c.in-Adds.code _ c.add.ensures c.drop_answer.ensures.kept c.drop_answer.ensures.store ∙ ap (after s) (sym c.in-Adds.is)

pub returns-in-Drops : goal.returns-in-Drops
returns-in-Drops c = λ h.
    let s : Held = record { state = c.args.state.now; store = c.args.store.now } in
    answer_dropped s c.drop_answer-in-Drops.ensures.places h _ _ c.in-Drops.id c.drop_answer-in-Drops.ensures.kept c.drop_answer-in-Drops.ensures.store ∙ ap (after s) (sym c.in-Drops.is)
