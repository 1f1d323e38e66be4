-- The record leaves, and the answer is kept.
use Rattle.rose.proofs.ChangeLaws.{answer_kept}
use Rattle.rose.proofs.change.answered.Goals as goal

pub returns-then-keeps : goal.returns-then-keeps
returns-then-keeps c = λ h.
    let b = c.args in
    answer_kept (record { state = b.state.now; store = b.store.now }) c.keep.ensures.places h _ _ b.id b.apdu.now b.keeps c.if-keeps.true _ c.take_out.ensures c.keep.ensures.kept c.keep.ensures.store
