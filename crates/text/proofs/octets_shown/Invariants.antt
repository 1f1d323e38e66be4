-- What was put is the text of the octets passed.
use Rattle.std.proofs.Common.{take}
use Rattle.text.specs.Text.{Said, each, octet_shown}
use Rattle.text.proofs.octets_shown.Given as goal

abbrev pub invariant-loop-b : goal.invariant-loop-b
invariant-loop-b l = Said l.fn.line l.at (each (octet_shown l.is_spaced) (take l.b-index l.s)) l.line l.k
