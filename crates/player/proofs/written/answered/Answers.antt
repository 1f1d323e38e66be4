use Rattle.std.proofs.Common.{sym, ◌∙◌, arith}
use Rattle.std.proofs.lemmas.Grind.{common_steps}
use Rattle.std.proofs.lemmas.Result.{err_from_is_err_and}
use Rattle.player.proofs.PlayLaws.{answered_first, answered_two}
use Rattle.player.proofs.written.answered.Goals as goal

pub returns-in_err-next : goal.returns-in_err-next
returns-in_err-next c =
    λ T s l h e.
    let p = err_from_is_err_and c.from_residual.result c.from_residual.ensures.1 in
    rw (p.1, p.2) (answered_first T _ _ s _ l h e _ _ c.between-first.ensures _ (c.shown.ensures T s) (omega (arith, c.octet.ensures, c.from-end.ensures)) (λ z. grind (arith, common_steps)) _ c.in_err-next.was)

pub returns-then-says_finished : goal.returns-then-says_finished
returns-then-says_finished c =
    λ T s l h e. answered_two T _ _ s _ l h e _ _ c.between-first.ensures _ (c.shown.ensures T s) (omega (arith, c.octet.ensures, c.from-end.ensures)) (λ z. grind (arith, common_steps)) _ c.in_ok-next.was (sym c.says_finished.ensures ∙ c.if-says_finished.true) _ c.between.ensures _ (c.shown-then-says_finished.ensures T s _)
