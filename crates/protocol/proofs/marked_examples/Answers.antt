-- They compute, in Computed.antt.
use Rattle.protocol.proofs.Computed.{computed}
use Rattle.protocol.proofs.marked_examples.Goals as goal

pub returns : goal.returns
returns c = computed.marked
