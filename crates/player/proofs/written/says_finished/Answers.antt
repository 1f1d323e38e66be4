use Rattle.std.proofs.Common.{arith}
use Rattle.player.proofs.WrittenLaws.{says_by}
use Rattle.player.proofs.written.says_finished.Goals as goal

pub returns : goal.returns
returns c = says_by _ _ _ _ c.octet.ensures (omega arith) c.between.ensures c.same.ensures
