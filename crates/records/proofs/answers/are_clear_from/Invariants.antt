use Rattle.std.proofs.Common.{◌≡◌, ◌*◌, drop}
use Rattle.records.specs.Limits.{answer_octets}
use Rattle.records.specs.Numbers.{all_zero}
use Rattle.records.proofs.answers.are_clear_from.Given as goal

-- what is left decides
abbrev pub invariant-loop-i : goal.invariant-loop-i
invariant-loop-i l = all_zero (drop (answer_octets * l.place) l.store) ≡ all_zero (drop (answer_octets * l.i) l.store)
