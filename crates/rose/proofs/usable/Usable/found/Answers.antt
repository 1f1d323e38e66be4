-- By the index of the id.
use Rattle.std.proofs.Common.{sym}
use Rattle.records.specs.Records.{view}
use Rattle.records.proofs.TakenLaws.{unplaced}
use Rattle.rose.proofs.PlaceLaws.{is_live}
use Rattle.rose.proofs.usable.Usable.found.Goals as goal

pub returns-in_err-i : goal.returns-in_err-i
returns-in_err-i c = rw c.from_residual.ensures (unplaced c.args.id (view c.args.records.now) (sym c.in_err-i.ensures))

pub returns : goal.returns
returns c = rw c.as_slice.ensures (is_live _ _ _ _ _ _ _ c.requires (sym c.in_ok-i.ensures) c.in_ok-operation.ensures)
