-- The result that an ENUMERATED stands in.
use Rattle.rose.proofs.ReplyLaws.{reply_written}
use Rattle.rose.proofs.reply.write_enumerated.Goals as goal

pub returns : goal.returns
returns c = reply_written c.args.id.0 c.args.code c.args.number c.args.out.now _ _ c.write_result.ensures
