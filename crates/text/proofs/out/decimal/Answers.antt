use Rattle.std.proofs.Common.{subst, List, ℕ}
use Rattle.text.specs.Out.{Adds}
use Rattle.text.proofs.OutLaws.{said_whole, decimal_long}
use Rattle.text.proofs.out.decimal.Goals as goal

pub returns : goal.returns
returns g c = subst (λ (u : List ℕ). Adds c.args.out.now u c.print.new.out) (said_whole (decimal_long c.args.n) c.decimal-end.ensures) c.print.ensures.added
