use Rattle.capture.specs.Entry.{kind_at}
use Rattle.player.proofs.PlayLaws.{sent_same}
use Rattle.player.proofs.written.is_sent.Goals as goal

pub returns-in-Sent : goal.returns-in-Sent
returns-in-Sent c =
    sent_same (kind_at c.args.capture.now c.args.entry) _ _ _ _ (cc) (rw (← c.entry_numbered-e.ensures) c.between.ensures) c.same.ensures
