use Rattle.std.proofs.Common.{subst, List, ℕ}
use Rattle.text.specs.Out.{Adds}
use Rattle.text.proofs.OutLaws.{said_front}
use Rattle.text.proofs.out.name.Goals as goal

pub returns : goal.returns
returns g c = subst (λ (u : List ℕ). Adds c.args.out.now u c.print.new.out) (said_front c.item-end.ensures) c.print.ensures.added
