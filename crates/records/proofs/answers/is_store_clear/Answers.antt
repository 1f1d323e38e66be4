use Rattle.std.proofs.Common.{◌∙◌, sym, refl}
use Rattle.records.proofs.ClearLaws.{clear_block}
use Rattle.records.proofs.answers.is_store_clear.Goals as goal

pub returns-then-not-are_zero : goal.returns-then-not-are_zero
returns-then-not-are_zero c =
    sym (c.loop-i.invariant
    ∙ clear_block c.args.places.now c.args.store.now c.loop-i.i c.loop-i-test.true c.if-used-gt-ANSWER_OCTETS.false c.are_zero.result c.are_zero.ensures
    ∙ rw c.if-not-are_zero.true refl)

pub loop-i-preserved : goal.loop-i-preserved
loop-i-preserved c =
    c.loop-i.invariant
    ∙ clear_block c.args.places.now c.args.store.now c.loop-i.i c.loop-i-test.true c.if-used-gt-ANSWER_OCTETS.false c.are_zero.result c.are_zero.ensures
    ∙ rw c.if-not-are_zero.false refl
