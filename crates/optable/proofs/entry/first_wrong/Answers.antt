-- The first wrong entry is the first of those left.
use Rattle.std.proofs.Common.{sym, ◌∙◌, arith}
use Rattle.optable.proofs.LayoutLaws.{first_entry}
use Rattle.optable.proofs.WalkLaws.{walk_stands, walk_next, walk_last}
use Rattle.optable.proofs.FaultLaws.{walk_starts, wrong_found, right_passed, walk_ended}
use Rattle.optable.proofs.entry.first_wrong.Goals as goal

pub loop-index-init : goal.loop-index-init
loop-index-init c = record {
  here = c.start_within-at.ensures ∙ first_entry _ _;
  last = λ p. absurd (omega arith);
  left = walk_starts _ _ _ c.requires.number;
}

pub entry_breach-requires-clause-stands : goal.entry_breach-requires-clause-stands
entry_breach-requires-clause-stands c =
    walk_stands _ c.requires.laid c.requires.number (omega arith) (omega arith) (omega (arith, c.start_within-at.ensures)) c.loop-index.invariant.here c.loop-index.invariant.last

pub returns-in-Err : goal.returns-in-Err
returns-in-Err c = wrong_found _ _ _ _ c.loop-index.invariant.left (omega arith) (sym c.entry_breach.ensures ∙ c.in-Err.is)

pub loop-index-preserved : goal.loop-index-preserved
loop-index-preserved c = record {
  here = walk_next _ _ c.loop-index.index c.loop-index.invariant.here c.size_of-size.ensures.value;
  last = λ _. walk_last _ _ c.loop-index.index c.loop-index.invariant.here;
  left = right_passed _ _ _ _ c.loop-index.invariant.left (omega arith) (sym c.entry_breach.ensures ∙ c.in_default.is);
}

pub returns : goal.returns
returns c = walk_ended _ _ _ _ c.loop-index.invariant.left (omega arith)
