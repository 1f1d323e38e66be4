-- What is left of the text decides.
use Rattle.text.proofs.HexLaws.{Reads}
use Rattle.text.proofs.hex.read_hex.Given as goal

abbrev pub invariant-loop-i : goal.invariant-loop-i
invariant-loop-i l = Reads l.text l.fn.out l.out l.i l.r
