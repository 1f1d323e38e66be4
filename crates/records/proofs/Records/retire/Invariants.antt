use Rattle.std.proofs.Common.{◌≡◌, ◌≤◌, take, length}
use Rattle.records.specs.Records.{pack, without}
use Rattle.records.proofs.Records.retire.Given as goal

-- the records seen so far that stay
abbrev pub invariant-loop-record : goal.invariant-loop-record
invariant-loop-record l = record {
  stay : l.stays ≡ pack (without l.id (take l.record-index l.record-items));
  room : length (without l.id (take l.record-index l.record-items)) ≤ l.record-index;
}
