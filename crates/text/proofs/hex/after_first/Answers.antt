-- Each way out is one answer of the definition.
use Rattle.std.proofs.Common.{arith, sym, ◌∙◌}
use Rattle.text.specs.Steps.{waiting}
use Rattle.text.proofs.HexLaws.{digit_small, stopped_no_digit, stopped_long, stepped_octet}
use Rattle.text.proofs.hex.after_first.Goals as goal

pub returns-in_default : goal.returns-in_default
returns-in_default c = stopped_no_digit _ _ _ _ _ (sym c.digit_of.ensures ∙ c.in_default.is)

pub returns-then-count-out : goal.returns-then-count-out
returns-then-count-out c = stopped_long _ _ _ _ _ c.in-Some.e (sym c.in-Some.ensures) c.requires.within c.if-count-out.true

pub overflow_mul-out : goal.overflow_mul-out
unfolding waiting
overflow_mul-out c = omega (arith, c.requires.digit)

pub overflow_add-out : goal.overflow_add-out
unfolding waiting
overflow_add-out c = omega (arith, c.requires.digit, digit_small c.args.c c.in-Some.e (sym c.in-Some.ensures))

pub returns : goal.returns
returns c = stepped_octet _ _ _ _ _ c.in-Some.e (sym c.in-Some.ensures) c.if-count-out.false
