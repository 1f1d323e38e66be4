-- What was put out is the text of the octets passed.
use Rattle.std.proofs.Common.{◌∷◌, take}
use Rattle.text.specs.Text.{each, hex_octet}
use Rattle.text.specs.Out.{Adds}
use Rattle.text.proofs.out.octets.Given as goal

abbrev pub invariant-loop-b : goal.invariant-loop-b
invariant-loop-b g l = Adds l.fn.out (each (λ b. 32 ∷ hex_octet b) (take l.b-index l.s)) l.out
