use Rattle.std.proofs.Common.{◌≡◌, ◌+◌, ◌*◌, ◌≤◌, true}
use Rattle.base.specs.Count.{every}
use Rattle.capture.specs.Format.{data_end, entry_right, placed}
use Rattle.capture.proofs.validity.entries_end.Given as goal

abbrev pub invariant-loop-i : goal.invariant-loop-i
invariant-loop-i l = record {
  end : l.at ≡ data_end l.capture l.i;
  right : every (entry_right l.capture) l.i ≡ true;
  placed : every (placed l.capture) l.i ≡ true;
  fits : l.at ≤ 4294967296 + 65536 * l.i;
}
