-- Operations start behind the header, each in eight octets.
use Rattle.std.proofs.Common.{ap, ◌∙◌, arith}
use Rattle.optable.specs.Read.{header_of}
use Rattle.optable.proofs.LayoutLaws.{class_inside}
use Rattle.optable.proofs.entry.class_within.Goals as goal

pub bounds-table-header_of : goal.bounds-table-header_of
bounds-table-header_of c = omega (arith, class_inside _ c.requires.laid _ (c.header_of.ensures ∙ ap header_of c.requires.same_edition) _ c.requires.within)
