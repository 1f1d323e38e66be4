use Rattle.ber.proofs.OutputLaws.{put_where_room, put_without_room}
use Rattle.ber.proofs.header.put_length.Goals as goal

pub returns-then-has_room : goal.returns-then-has_room
returns-then-has_room c = put_where_room c.has_room.ensures c.length_octets.ensures c.if-has_room.true c.store_length.ensures

pub returns : goal.returns
returns c = put_without_room c.has_room.ensures c.length_octets.ensures c.if-has_room.false
