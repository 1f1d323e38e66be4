-- Each phase has its step.
use Rattle.std.proofs.Common.{sym, ◌∙◌}
use Rattle.std.proofs.lemmas.Result.{err_from_is_err_and}
use Rattle.text.proofs.HexLaws.{stepped_between, stopped_between, stepped_comment}
use Rattle.text.proofs.hex.next.Goals as goal

pub returns-in_err-phase-in-Between : goal.returns-in_err-phase-in-Between
returns-in_err-phase-in-Between c =
    let p = err_from_is_err_and c.from_residual.result c.from_residual.ensures.1 in
    rw (p.1, p.2) (stopped_between _ c.args.r _ _ c.in-Between.is (sym c.in_err-phase-in-Between.was ∙ c.after_octets.ensures))

pub returns-in_ok-phase-in-Between : goal.returns-in_ok-phase-in-Between
returns-in_ok-phase-in-Between c = stepped_between _ c.args.r _ _ c.in-Between.is (sym c.in_ok-phase-in-Between.was ∙ c.after_octets.ensures) c.requires

pub returns-in-Comment : goal.returns-in-Comment
returns-in-Comment c = stepped_comment _ c.args.r _ _ c.in-Comment.is c.in_comment-phase.ensures c.requires
