-- `element` and `contents` call each other. Both measures are the octets left: `contents` hands on those behind an identifier, `element` those behind a length.
use Rattle.std.proofs.Common.{◌-◌, ℕ, ◌≤◌, length}
use Rattle.ber.specs.Steps.{Before}
use Rattle.ber.proofs.ContentsAnswers.{Rest}
use Rattle.ber.proofs.element.+contents_element.Given as goal

abbrev pub decreases-contents : goal.decreases-contents
decreases-contents l = length l.s.now

abbrev pub decreases-element : goal.decreases-element
decreases-element l = length l.s.now

-- what is left decides, and some of it stands before the limit
abbrev pub invariant-contents-loop-at : goal.invariant-contents-loop-at
invariant-contents-loop-at l = record {
  within : l.at ≤ length l.s;
  left : (most : ℕ) → Before (length l.s) l.limit 0 most → Rest l.levels l.s l.limit l.at most;
}

abbrev pub decreases-contents-loop-at : goal.decreases-contents-loop-at
decreases-contents-loop-at l = l.limit - l.at
