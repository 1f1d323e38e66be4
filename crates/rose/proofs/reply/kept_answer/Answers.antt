-- By the place of the answer.
use Rattle.std.proofs.Common.{sym, refl, arith}
use Rattle.rose.specs.Usable.{held}
use Rattle.rose.proofs.ReplyLaws.{place_inside, kept_most, is_kept_there, kept_there}
use Rattle.rose.proofs.reply.kept_answer.Goals as goal

pub overflow_mul-at : goal.overflow_mul-at
overflow_mul-at c =
    let u = c.args.usable.now in
    let h = place_inside u.state.now.kept c.args.id.0 c.in_ok-place.place (sym c.in_ok-place.ensures) in
    omega (arith, h, kept_most (held u) u.sound)

pub overflow_add-result : goal.overflow_add-result
overflow_add-result c =
    let u = c.args.usable.now in
    let h = place_inside u.state.now.kept c.args.id.0 c.in_ok-place.place (sym c.in_ok-place.ensures) in
    omega (arith, h, kept_most (held u) u.sound)

pub returns : goal.returns
returns c =
    let u = c.args.usable.now in
    rw c.as_slice.ensures
    (is_kept_there u.state.now.kept c.args.id.0 u.store.now _ _ _ (sym c.in_ok-place.ensures) refl refl, kept_there u.state.now.kept c.args.id.0 u.store.now _ _ _ (sym c.in_ok-place.ensures) refl refl)
