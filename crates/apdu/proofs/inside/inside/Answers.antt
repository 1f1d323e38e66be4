-- The contents by the frame, where its identifier is the wanted one.
use Rattle.apdu.proofs.InsideAnswers.{inside_wanted}
use Rattle.apdu.proofs.inside.inside.Goals as goal

pub returns-in-Some : goal.returns-in-Some
returns-in-Some c = inside_wanted _ _ c.only_frame.ensures _ c.in-Some.is _ _ c.if-frame-identifier.true c.between.ensures
