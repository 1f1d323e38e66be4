use Rattle.codes.specs.Count.{some}
use Rattle.optable.proofs.PairAnswers.{joined_told}
use Rattle.optable.proofs.lookup.is_joined.Goals as goal

pub returns : goal.returns
unfolding some
returns c = joined_told _ _ c.requires c.head_at-head.ensures.starts c.head_at-head.ensures.counts c.in-Some-Some.is-0 c.in-Some-Some.is-1 c.has_pair.ensures
