use Rattle.std.proofs.Common.{sym, ◌∙◌, arith}
use Rattle.codes.proofs.FindAnswers.{halving_starts, none_left, looks_spent, look_here, look_above, look_below}
use Rattle.codes.proofs.search.find.Goals as goal
use Rattle.codes.proofs.search.find.Goals.{then-is_below, else-is_below}

pub loop-look-init : goal.loop-look-init
loop-look-init c = record { high = omega arith; left = halving_starts _ _ _ }

pub returns-then-low-high : goal.returns-then-low-high
returns-then-low-high c = none_left _ _ _ _ _ _ c.loop-look.invariant.left (omega arith)

pub returns-then-same : goal.returns-then-same
returns-then-same c =
    look_here _ _ _ _ _ _ c.loop-look.invariant.left (omega arith) (omega arith) _ c.key_at-there.ensures (sym c.same.ensures ∙ c.if-same.true)

pub loop-look-preserved : goal.loop-look-preserved
loop-look-preserved c =
    let e = c.loop-look.invariant.left in
    let n = sym c.same.ensures ∙ c.if-same.false in
    let g = c.key_at-there.ensures in
    elim c.if-is_below.branch [
      | then-is_below w ↦ record {
        high = omega arith;
        left = rw (w.low-is, w.high-is) (look_above _ _ _ _ _ _ e (omega arith) (omega arith) _ g n (sym c.is_below.ensures ∙ w.if-is_below.true));
      }
      | else-is_below w ↦ record {
        high = omega arith;
        left = rw (w.low-is, w.high-is) (look_below _ _ _ _ _ _ e (omega arith) (omega arith) _ g n (sym c.is_below.ensures ∙ w.if-is_below.false));
      }
    ]

pub returns : goal.returns
returns c = looks_spent _ _ _ _ _ _ c.loop-look.invariant.left (omega arith)
