use Rattle.std.proofs.Common.{◌≡◌, ◌-◌, ◌≤◌, [], length}
use Rattle.records.specs.Held.{fresh_held}
use Rattle.records.specs.Limits.{octets}
use Rattle.capture.specs.Format.{count}
use Rattle.player.specs.Play.{play}
use Rattle.player.specs.Reading.{beside, onward}
use Rattle.player.proofs.turn.walked.Given as goal

abbrev pub invariant-loop-at : goal.invariant-loop-at
invariant-loop-at l = record {
  within : l.at ≤ l.n;
  onward : play l.table l.capture (count l.capture) 0 fresh_held [] ≡ onward l.table l.capture l.at (beside l.state l.store) [];
  room : length l.out ≡ octets;
}

abbrev pub decreases-loop-at : goal.decreases-loop-at
decreases-loop-at l = l.n - l.at
