use Rattle.ber.proofs.OutputLaws.{put_digits}
use Rattle.ber.proofs.integer.put_integer.Goals as goal

pub returns : goal.returns
returns c = put_digits _ _ _ _ _ _ _ c.integer_octets-n.ensures c.to_be_bytes.ensures c.put_octets.ensures
