-- What seven looks find, the looks that are left find among the entries that are left.
use Rattle.std.proofs.Common.{◌≡◌, ◌-◌, ◌<◌}
use Rattle.codes.specs.Search.{key_in, halve, in_seven}
use Rattle.codes.proofs.search.find.Given as goal

abbrev pub invariant-loop-look : goal.invariant-loop-look
invariant-loop-look l = record {
  high : l.high < 65536;
  left : in_seven (key_in l.octets l.start l.kind) l.key l.count ≡ halve (key_in l.octets l.start l.kind) l.key (7 - l._look) l.low l.high;
}
