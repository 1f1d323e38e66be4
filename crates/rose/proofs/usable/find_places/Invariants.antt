-- The operations of the records before the index stand there.
use Rattle.std.proofs.Common.{◌≡◌, map, Some, take, length}
use Rattle.records.specs.Limits.{records}
use Rattle.rose.specs.Places.{places_of}
use Rattle.rose.proofs.usable.find_places.Given as goal

abbrev pub invariant-loop-i : goal.invariant-loop-i
invariant-loop-i l = record {
  placed : map Some (take l.i l.places) ≡ places_of l.table.octets.now (take l.i l.live);
  sized : length l.places ≡ records;
}
