-- The walk stands where its entry starts, and the first wrong entry is the first of those left.
use Rattle.std.proofs.Common.{◌≡◌, ◌-◌, ◌≤◌, not}
use Rattle.codes.specs.Count.{seek}
use Rattle.optable.specs.Read.{entry_start}
use Rattle.optable.specs.Fault.{first_wrong}
use Rattle.optable.specs.Validity.{entry_right}
use Rattle.optable.proofs.entry.first_wrong.Given as goal

abbrev pub invariant-loop-index : goal.invariant-loop-index
invariant-loop-index l = record {
  here : l.at ≡ entry_start l.table l.part l.index;
  last : 1 ≤ l.index → l.before ≡ entry_start l.table l.part (l.index - 1);
  left : first_wrong l.table l.part ≡ seek (λ j. not (entry_right l.table l.part j)) (l.n - l.index) l.index;
}
