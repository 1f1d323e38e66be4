use Rattle.std.proofs.Common.{◌≡◌, take, length}
use Rattle.records.specs.Records.{ids_of}
use Rattle.records.proofs.Records.is_distinct.Given as goal

-- the ids of the records seen so far are put down
abbrev pub invariant-loop-i : goal.invariant-loop-i
invariant-loop-i l = record {
  seen : take l.i l.ids ≡ ids_of (take l.i l.live);
  full : length l.ids ≡ 32;
}
