-- Name h stands where it is read, and is one of those before.
use Rattle.std.proofs.Common.{◌*◌, ◌+◌, ap, sym, ◌∙◌, arith}
use Rattle.optable.specs.declared.Part.TheVariants.{Names}
use Rattle.optable.specs.Read.{entry_start}
use Rattle.optable.proofs.LayoutLaws.{entry_inside}
use Rattle.optable.proofs.WalkLaws.{name_read, name_repeated}
use Rattle.optable.proofs.names.is_new_name.Goals as goal

pub name_within-requires : goal.name_within-requires
unfolding entry_start
name_within-requires c = omega (arith, entry_inside _ c.requires.laid Names c.loop-h.h (omega arith), c.requires.first_start)

pub returns-then-same : goal.returns-then-same
unfolding entry_start
returns-then-same c =
    let here = ap (λ x. x + c.loop-h.h * 17) c.requires.first_start in
    name_repeated _ _ c.loop-h.h (name_read _ _ here c.name_within.ensures) c.requires.read_name (omega arith) (sym c.same.ensures ∙ c.if-same.true)
