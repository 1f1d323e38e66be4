-- The theorem of Theorem.antt.
use Rattle.protocol.proofs.Theorem.{shown_was_given}
use Rattle.protocol.proofs.shown_was_given.Goals as goal

pub returns : goal.returns
returns c = shown_was_given
