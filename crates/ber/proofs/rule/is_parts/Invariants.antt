-- What is left of the octets decides, with whether a part starts there.
use Rattle.std.proofs.Common.{drop, ◌≡◌, true}
use Rattle.ber.specs.Rule.{parts}
use Rattle.ber.proofs.rule.is_parts.Given as goal

abbrev pub invariant-loop-b : goal.invariant-loop-b
invariant-loop-b l = record { left : parts true l.c ≡ parts l.start (drop l.b-index l.c) }
