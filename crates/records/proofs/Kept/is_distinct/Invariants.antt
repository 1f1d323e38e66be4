use Rattle.std.proofs.Common.{◌≡◌, take, length}
use Rattle.records.specs.Kept.{place_ids}
use Rattle.records.proofs.Kept.is_distinct.Given as goal

-- the ids of the places seen so far are put down
abbrev pub invariant-loop-i : goal.invariant-loop-i
invariant-loop-i l = record {
  seen : take l.i l.ids ≡ place_ids (take l.i l.kept);
  full : length l.ids ≡ 8;
}
