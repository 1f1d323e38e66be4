use Rattle.std.proofs.Common.{◌≡◌, ◌∙◌, ℕ, ◌+◌, ◌<◌, true, ◌++◌, ◌∷◌, [], false, sym, arith, take, get_or, length-set, length-take}
use Rattle.std.proofs.Math.Seq.{take_all, get_or-take}
use Rattle.std.proofs.lemmas.List.{take_more}
use Rattle.records.specs.Numbers.{among}
use Rattle.records.proofs.IdLaws.{once_added}
use Rattle.records.proofs.PairLaws.{unmarked_is_absent, marked_more, stands_twice}
use Rattle.records.proofs.ids.each_once.Goals as goal
use Rattle.records.proofs.ids.each_once.Goals.{then-set-flag+else-loop-other-test, else-set-flag}

pub pairs-preserved : goal.pairs-preserved
pairs-preserved c =
    let before = take c.pairs.i c.args.ids.now in
    let id : ℕ = get_or c.args.ids.now c.pairs.i 0 in
    let more : take (c.pairs.i + 1) c.args.ids.now ≡ before ++ id ∷ [] = take_more c.args.ids.now c.pairs.i 0 c.pairs-test.true in
    let absent : among id before ≡ false =
    elim c.if-set-flag.branch [
      | then-set-flag+else-loop-other-test w ↦ (rw (take_all w.loop-other.other-index before w.loop-other-test.false) at w.loop-other.invariant.absent)
      | else-set-flag w ↦ unmarked_is_absent c.pairs.set before id c.pairs.invariant.flagged w.if-set-flag.false
    ] in
    record {
      once = elim c.if-set-flag.branch [ then-set-flag+else-loop-other-test w ↦ w.once-is ∙ w.loop-other.invariant.once | else-set-flag w ↦ w.once-is ∙ c.pairs.invariant.once ];
      apart = rw more (once_added id before c.pairs.invariant.apart absent);
      flagged = rw more (marked_more c.pairs.set before id (omega (arith, c.pairs.invariant.full)) c.pairs.invariant.flagged);
      full = length-set c.pairs.set _ true ∙ c.pairs.invariant.full;
    }

pub returns-then-other-id : goal.returns-then-other-id
returns-then-other-id c =
    let here : c.loop-other.other-index < c.pairs.i = omega (arith, length-take c.pairs.i c.args.ids.now) in
    sym (stands_twice c.args.ids.now c.loop-other.other-index c.pairs.i here c.pairs-test.true
    (sym (get_or-take c.pairs.i c.args.ids.now c.loop-other.other-index 0 here) ∙ c.if-other-id.true))
