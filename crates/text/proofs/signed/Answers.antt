-- A number below 2^31 is said as it is, and another behind a minus sign by what it lacks to 2^32.
use Rattle.std.proofs.Common.{le-ltb}
use Rattle.base.proofs.Tests.{cond_false}
use Rattle.text.proofs.Laws.{said_said, said_as}
use Rattle.text.proofs.signed.Goals as goal

pub returns : goal.returns
returns c = said_as (cond_false _ _ (le-ltb _ _ c.if-bits-lt2147483648.false)) (said_said c.put-a.ensures c.decimal-2.ensures)
