use Rattle.std.proofs.Common.{rules, arith, ◌++◌}
use Rattle.std.proofs.Output.{has_written_append}
use Rattle.std.specs.Fmt.{HasWritten}
use Rattle.std.specs.Slice.Iter.{chunks_rest}
use Rattle.text.specs.Text.{each, octet_shown}
use Rattle.text.proofs.ShownLaws.{each_next}
use Rattle.text.proofs.hex.show.Goals as goal

pub loop-few-preserved : goal.loop-few-preserved
loop-few-preserved g c =
    let s = c.in-Some.ensures.steps in
    let i = c.loop-few.invariant in (
      omega (arith, s.0, i.2),
      tt,
      omega (arith, s.0, i.2),
      λ p.
          let w = i.3 p in
          let now : HasWritten g.W.Write.write_str_gives c.loop-few.f (each (octet_shown c.args.is_spaced) c.in-Some.few.now) c.write_str.new.self = let q = w.1.0 in search rules in
          (w.0 ++ each (octet_shown c.args.is_spaced) c.in-Some.few.now, (has_written_append _ _ _ _ _ _ w.1.0 now, each_next (octet_shown c.args.is_spaced) w.0 c.in-Some.few.now (chunks_rest c.next.new.self) s.1.0 w.1.1)),
    )
