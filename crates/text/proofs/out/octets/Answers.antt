use Rattle.std.proofs.Common.{arith, ◌∷◌}
use Rattle.text.specs.Text.{hex_octet}
use Rattle.text.proofs.OutLaws.{added_next}
use Rattle.text.proofs.out.octets.Goals as goal

pub loop-b-preserved : goal.loop-b-preserved
loop-b-preserved g c = added_next (λ b. 32 ∷ hex_octet b) _ _ _ c.args.s.now c.loop-b.b-index (omega arith) c.loop-b.invariant c.spaced_octet.ensures
