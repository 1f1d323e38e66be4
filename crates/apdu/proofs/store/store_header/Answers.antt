-- The identifier, and the length behind it.
use Rattle.std.proofs.Common.{arith}
use Rattle.apdu.proofs.EncodeAnswers.{stored_by, then_put}
use Rattle.apdu.proofs.store.store_header.Goals as goal

pub returns : goal.returns
returns c = then_put (stored_by c.put_octet-length_at.ensures (omega arith)) c.put_length.ensures (omega arith)
