use Rattle.player.proofs.PlayLaws.{sent_turns, forget_turns}
use Rattle.player.proofs.turn.played_entry.Goals as goal

pub returns-in-Sent : goal.returns-in-Sent
returns-in-Sent c =
    sent_turns _ _ _ _ c.requires.there _ _ _ _ _ (cc) (rw (← c.entry_numbered-e.ensures) c.between-octets.ensures) c.asked-r.ensures (c.turned.ensures _)

pub returns-in-Forget : goal.returns-in-Forget
returns-in-Forget c =
    forget_turns _ _ _ _ c.requires.there _ _ _ _ (cc) (rw (← c.entry_numbered-e.ensures) c.between-octets.ensures) c.forgotten-r.ensures (c.turned-in-Forget.ensures _)
