use Rattle.codes.specs.Count.{some}
use Rattle.optable.proofs.PairAnswers.{parent_told}
use Rattle.optable.proofs.lookup.has_child_in.Goals as goal

pub returns : goal.returns
unfolding some
returns c = parent_told _ c.head_at-head.ensures.starts c.head_at-head.ensures.counts c.in-Some.is c.has_first.ensures
