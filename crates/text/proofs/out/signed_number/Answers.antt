use Rattle.std.proofs.Common.{subst, List, ℕ}
use Rattle.text.specs.Out.{Adds}
use Rattle.text.proofs.OutLaws.{said_whole, signed_long}
use Rattle.text.proofs.out.signed_number.Goals as goal

pub returns : goal.returns
returns g c = subst (λ (u : List ℕ). Adds c.args.out.now u c.print.new.out) (said_whole (signed_long c.args.bits) c.signed-end.ensures) c.print.ensures.added
