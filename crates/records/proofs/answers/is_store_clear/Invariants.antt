use Rattle.std.proofs.Common.{◌≡◌, ◌*◌, drop}
use Rattle.records.specs.Limits.{answer_octets}
use Rattle.records.proofs.ClearLaws.{unused_clear}
use Rattle.records.proofs.answers.is_store_clear.Given as goal

-- what is left decides
abbrev pub invariant-loop-i : goal.invariant-loop-i
invariant-loop-i l = unused_clear l.places l.store ≡ unused_clear (drop l.i l.places) (drop (answer_octets * l.i) l.store)
