use Rattle.std.proofs.lemmas.Result.{err_from_is_err_and}
use Rattle.player.proofs.PlayLaws.{received_goes, received_differs}
use Rattle.player.proofs.turn.received.Goals as goal

pub returns-in_err-at : goal.returns-in_err-at
returns-in_err-at c =
    let p = err_from_is_err_and c.from_residual.result c.from_residual.ensures.1 in
    rw (p.1, p.2, ← c.octets_at.ensures) (received_differs _ _ _ _ _ _ _ _ c.receive-r.ensures c.requires _ c.between-written.ensures _ _ _ c.following.ensures (c.answered.ensures c.args.table.now) _ c.in_err-at.was)

pub returns : goal.returns
returns c =
    rw (← c.octets_at.ensures) (received_goes _ _ _ _ _ _ _ _ c.receive-r.ensures c.requires _ c.between-written.ensures _ _ _ c.following.ensures (c.answered.ensures c.args.table.now) _ c.in_ok-at.was)
