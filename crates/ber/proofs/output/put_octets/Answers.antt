use Rattle.std.proofs.Common.{refl}
use Rattle.ber.proofs.OutputLaws.{put_where_room, put_without_room}
use Rattle.ber.proofs.output.put_octets.Goals as goal

pub returns-then-has_room : goal.returns-then-has_room
returns-then-has_room c = put_where_room c.has_room.ensures refl c.if-has_room.true c.store_octets.ensures

pub returns : goal.returns
returns c = put_without_room c.has_room.ensures refl c.if-has_room.false
