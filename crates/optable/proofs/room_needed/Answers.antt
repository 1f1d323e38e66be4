-- The lookups decide, one where acknowledge is not listed.
use Rattle.optable.proofs.ServiceAnswers.{probe_room, acknowledge_room, reject_room}
use Rattle.optable.proofs.room_needed.Goals as goal

pub returns-then-is_some-2 : goal.returns-then-is_some-2
returns-then-is_some-2 c =
    probe_room _ c.operation_of.ensures (cc) c.if-is_some.true
    c.operation_of-then-is_some.ensures (cc) c.if-is_some-2.true

pub returns-then-is_some : goal.returns-then-is_some
returns-then-is_some c =
    acknowledge_room _ c.operation_of.ensures (cc) c.if-is_some.true
    c.operation_of-then-is_some.ensures (cc) c.if-is_some-2.false

pub returns : goal.returns
returns c = reject_room _ c.operation_of.ensures (cc) c.if-is_some.false
