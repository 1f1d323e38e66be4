-- What was written is the text of the octets passed.
use Rattle.std.proofs.Common.{◌≡◌, ◌++◌, List, ℕ}
use Rattle.std.specs.Fmt.{HasWritten, IsPlainFormatter}
use Rattle.std.specs.Slice.Iter.{chunks_rest, chunks_size}
use Rattle.text.specs.Text.{each, octet_shown}
use Rattle.text.proofs.hex.show.Given as goal

abbrev pub invariant-loop-few : goal.invariant-loop-few
invariant-loop-few g l =
    (goal.iterator-loop-few g).can_next l.few-iterator ×
    (goal.iterator-loop-few g).is_finite l.few-iterator ×
    (chunks_size l.few-iterator ≡ 32) ×
    (IsPlainFormatter l.initial.f → (w : List ℕ) × (HasWritten g.W.Write.write_str_gives l.initial.f w l.f × (w ++ each (octet_shown l.is_spaced) (chunks_rest l.few-iterator) ≡ each (octet_shown l.is_spaced) l.octets)))
