-- A result, or a result and the answer behind it.
use Rattle.rose.proofs.ReplyLaws.{result_written, fetched_written}
use Rattle.rose.proofs.reply.write_reply.Goals as goal

pub returns-in-Result : goal.returns-in-Result
returns-in-Result c = rw c.in-Result.is (result_written _ _ _ _ _ _ c.write_enumerated.ensures)

pub returns-in-Fetched : goal.returns-in-Fetched
returns-in-Fetched c = rw c.in-Fetched.is (fetched_written _ _ _ _ _ _ c.write_enumerated-n.ensures _ _ _ (rw c.of.ensures at c.put_octets.ensures))
