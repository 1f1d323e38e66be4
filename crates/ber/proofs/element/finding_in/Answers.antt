-- By what the check of the first element found.
use Rattle.std.proofs.Common.{refl, sym, ap, ◌∙◌, inr, arith}
use borrow.Author.Tests.{eq-eqb, ne_eqb}
use Rattle.base.proofs.Tests.{cond_true, cond_false}
use Rattle.ber.proofs.ContentsAnswers.{finding_by, first_finding}
use Rattle.ber.proofs.element.finding_in.Goals as goal

pub returns-then-len-s : goal.returns-then-len-s
returns-then-len-s c =
    cond_true _ _ (eq-eqb _ _ c.if-len-s.true) ∙ ap (finding_by _) (sym c.in-Ended.is) ∙ first_finding _ _ (omega arith) _ (c.contents.ensures 1 (inr (refl, refl)))

pub returns-else-len-s : goal.returns-else-len-s
returns-else-len-s c =
    cond_false _ _ (ne_eqb _ _ c.if-len-s.false) ∙ ap (finding_by _) (sym c.in-Ended.is) ∙ first_finding _ _ (omega arith) _ (c.contents.ensures 1 (inr (refl, refl)))

pub returns-in-Closed : goal.returns-in-Closed
returns-in-Closed c = ap (finding_by _) (sym c.in-Closed.is) ∙ first_finding _ _ (omega arith) _ (c.contents.ensures 1 (inr (refl, refl)))

pub returns-in-Broken : goal.returns-in-Broken
returns-in-Broken c = ap (finding_by _) (sym c.in-Broken.is) ∙ first_finding _ _ (omega arith) _ (c.contents.ensures 1 (inr (refl, refl)))
