use Rattle.std.proofs.Common.{◌≡◌, true, false, length, take}
use Rattle.records.specs.Numbers.{among, each_once}
use Rattle.records.proofs.PairLaws.{marked}
use Rattle.records.proofs.ids.each_once.Given as goal

-- none of the ids looked at so far stands twice, and each of them has set its flag
abbrev pub invariant-pairs : goal.invariant-pairs
invariant-pairs l = record {
  once : l.once ≡ true;
  apart : each_once (take l.i l.ids) ≡ true;
  flagged : marked l.set (take l.i l.ids) ≡ true;
  full : length l.set ≡ 256;
}

-- the id is none of those before it that were compared
abbrev pub invariant-loop-other : goal.invariant-loop-other
invariant-loop-other l = record {
  once : l.once ≡ true;
  absent : among l.id (take l.other-index (take l.i l.ids)) ≡ false;
}
