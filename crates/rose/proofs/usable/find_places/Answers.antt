-- One place more.
use Rattle.std.proofs.Common.{sym, ℕ, arith}
use Rattle.std.proofs.Math.ListN.{length-set}
use Rattle.rose.proofs.PlaceLaws.{stand_next}
use Rattle.rose.proofs.usable.find_places.Goals as goal

pub loop-i-preserved : goal.loop-i-preserved
loop-i-preserved c = record {
  placed = stand_next _ _ _ _ _ _ (omega arith) (omega arith) c.loop-i.invariant.placed (sym c.in_ok-places.ensures);
  sized = omega (arith, length-set {A = ℕ});
}
