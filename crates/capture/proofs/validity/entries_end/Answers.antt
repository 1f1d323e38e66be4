use Rattle.std.proofs.Common.{◌∙◌, sym, arith}
use Rattle.base.proofs.CountLaws.{every_none, every_more}
use Rattle.capture.proofs.Answers.{data_end_none, data_end_more, entry_placed}
use Rattle.capture.proofs.validity.entries_end.Goals as goal

pub loop-i-init : goal.loop-i-init
loop-i-init c = record {
  end = c.data_offset-at.ensures.value ∙ data_end_none _;
  right = every_none _;
  placed = every_none _;
  fits = omega arith;
}

pub loop-i-preserved : goal.loop-i-preserved
loop-i-preserved c =
    let loop = c.loop-i.invariant in record {
      end = rw (loop.end, c.size.ensures) (data_end_more _ _);
      right = every_more _ _ loop.right (sym c.is_entry_right.ensures ∙ c.if-not-is_entry_right.false);
      placed = every_more _ _ loop.placed (entry_placed _ _ (omega arith));
      fits = omega arith;
    }
