-- What is left of the octets decides in `contents`; the length behind the identifier does in `element`.
use Rattle.std.proofs.Common.{ℕ, ◌+◌, ◌-◌, ◌≤◌, sym, ap, ◌∙◌, arith, length, take, drop, length-take, length-drop}
use Rattle.base.proofs.Lists.{rest}
use Rattle.ber.specs.declared.element.Inside.TheVariants.{Broken}
use Rattle.ber.proofs.HeaderLaws.{identifier_within}
use Rattle.ber.proofs.ElementAnswers.{length_is, all_before, open_room, definite_room, countable, behind_open, behind_definite}
use Rattle.ber.proofs.ContentsAnswers.{wrong_within, wrong_countable, good_within, rest_all, loop_end, loop_closed, loop_refused, loop_wrong, loop_step}
use Rattle.ber.proofs.element.+contents_element.Goals as goal

pub contents-loop-at-init : goal.contents-loop-at-init
contents-loop-at-init t c = record { within = omega arith; left = rest_all _ _ _ }

pub contents-returns-then-is_closing : goal.contents-returns-then-is_closing
contents-returns-then-is_closing t c = λ most b.
    loop_closed _ _ _ _ most (c.loop-at.invariant.left most b) c.loop-at-test.true c.requires (sym c.is_closing.ensures ∙ c.if-is_closing.true)

pub contents-returns-in_default : goal.contents-returns-in_default
contents-returns-in_default t c = λ most b.
    loop_refused _ _ _ _ most (c.loop-at.invariant.left most b) c.loop-at-test.true c.requires (sym c.identifier_octets.ensures ∙ c.in_default.is)
    (sym c.is_closing.ensures ∙ c.if-is_closing.false)

pub contents-element-requires : goal.contents-element-requires
contents-element-requires t c =
    let all = c.args.s.now in let at = c.loop-at.at in
    let here = take (length all - at) (drop at all) in let k = c.in-Some.k in
    (omega (arith, c.requires, c.loop-at-test.true, identifier_within here (sym c.identifier_octets.ensures ∙ c.in-Some.is), ap length (rest all at), length-drop at all, ap length (rest here k), length-drop k here, c.decreases), tt)

pub contents-place_behind-requires : goal.contents-place_behind-requires
contents-place_behind-requires t c =
    let all = c.args.s.now in let at = c.loop-at.at in
    let room = wrong_countable _ all at (omega (arith, c.requires, c.loop-at-test.true)) _ (sym c.identifier_octets.ensures ∙ c.in-Some.is) _ c.element.ensures _ c.in-Err.is in
    omega (arith, c.well_formed, identifier_within (take (length all - at) (drop at all)) (sym c.identifier_octets.ensures ∙ c.in-Some.is), ap length (rest all at), length-drop at all)

pub contents-overflow_add-result : goal.contents-overflow_add-result
contents-overflow_add-result t c =
    let room = wrong_within _ c.args.s.now _ (omega (arith, c.requires, c.loop-at-test.true)) _ (sym c.identifier_octets.ensures ∙ c.in-Some.is) _ c.element.ensures _ c.in-Err.is in
    omega (arith, c.place_behind.ensures, c.well_formed)

pub contents-returns-in-Err : goal.contents-returns-in-Err
contents-returns-in-Err t c = λ most b.
    ap (λ (p : ℕ). Broken (c.loop-at.at + p)) c.place_behind.ensures
    ∙ loop_wrong _ _ _ _ most (c.loop-at.invariant.left most b) c.loop-at-test.true c.requires _ (sym c.identifier_octets.ensures ∙ c.in-Some.is) _
    c.element.ensures _ c.in-Err.is

good-room : (t : ℕ) (c : goal.contents-In-Ok t) → (2 ≤ c.in-Some.k + c.in-Ok.len)
    × (c.loop-at.at + (c.in-Some.k + c.in-Ok.len) ≤ length c.args.s.now)
good-room t c = good_within _ c.args.s.now _ (omega (arith, c.requires, c.loop-at-test.true)) _ (sym c.identifier_octets.ensures ∙ c.in-Some.is) _ c.element.ensures _ c.in-Ok.is

pub contents-overflow_add-at : goal.contents-overflow_add-at
contents-overflow_add-at t c = omega (arith, good-room t c, c.well_formed)

pub contents-overflow_add-at-in-Ok : goal.contents-overflow_add-at-in-Ok
contents-overflow_add-at-in-Ok t c = omega (arith, good-room t c, c.well_formed)

pub contents-loop-at-smaller : goal.contents-loop-at-smaller
contents-loop-at-smaller t c = omega (arith, good-room t c)

pub contents-loop-at-preserved : goal.contents-loop-at-preserved
contents-loop-at-preserved t c = record {
  within = omega (arith, good-room t c);
  left = λ most b.
      loop_step _ _ _ _ most (c.loop-at.invariant.left most b) c.loop-at-test.true c.requires _ (sym c.identifier_octets.ensures ∙ c.in-Some.is) _
      c.element.ensures _ c.in-Ok.is;
}

pub contents-returns : goal.contents-returns
contents-returns t c = λ most b. loop_end _ _ _ _ most (c.loop-at.invariant.left most b) c.loop-at-test.false

pub element-contents-requires : goal.element-contents-requires
element-contents-requires t c =
    let all = c.args.s.now in
    let room = open_room all _ c.length_of.ensures (length_is c.in-Some.is c.in-Indefinite.is) in
    (omega (arith, ap length (rest all 1), length-drop 1 all, c.decreases), omega (arith, ap length (rest all 1), length-drop 1 all))

pub element-closed-requires : goal.element-closed-requires
element-closed-requires t c =
    let all = c.args.s.now in
    countable _ (length all) _ _ _ (omega (arith, ap length (rest all 1), length-drop 1 all, c.well_formed, open_room all _ c.length_of.ensures (length_is c.in-Some.is c.in-Indefinite.is)))
    (omega (arith, ap length (rest all 1), length-drop 1 all))
    (c.contents.ensures (length all) (all_before (omega (arith, ap length (rest all 1), length-drop 1 all)) (omega (arith, ap length (rest all 1), length-drop 1 all))))

pub element-contents-requires-in-Is : goal.element-contents-requires-in-Is
element-contents-requires-in-Is t c =
    let all = c.args.s.now in
    let k = c.in-Is.octets in let v = c.in-Is.value in
    let room = definite_room _ _ c.length_of.ensures _ _ (length_is c.in-Some.is c.in-Is.is) in
    (omega (arith, length-take (k + v - k) (drop k all), length-drop k all, c.decreases), omega (arith, length-take (k + v - k) (drop k all), length-drop k all))

pub element-filled-requires : goal.element-filled-requires
element-filled-requires t c =
    let all = c.args.s.now in
    let k = c.in-Is.octets in let v = c.in-Is.value in
    let room = definite_room _ _ c.length_of.ensures _ _ (length_is c.in-Some.is c.in-Is.is) in
    countable _ v _ _ _ (omega (arith, length-take (k + v - k) (drop k all), length-drop k all, c.well_formed))
    (omega (arith, length-take (k + v - k) (drop k all), length-drop k all))
    (c.contents-in-Is.ensures v (all_before (omega (arith, length-take (k + v - k) (drop k all), length-drop k all)) (omega (arith, length-take (k + v - k) (drop k all), length-drop k all))))

pub element-returns-else-id-eq0 : goal.element-returns-else-id-eq0
element-returns-else-id-eq0 t c =
    let all = c.args.s.now in
    let room = open_room all _ c.length_of.ensures (length_is c.in-Some.is c.in-Indefinite.is) in
    c.closed.ensures
    ∙ behind_open _ _ _ _ c.if-levels-eq0.false c.length_of.ensures (length_is c.in-Some.is c.in-Indefinite.is) (omega arith) _
    (c.contents.ensures (length all) (all_before (omega (arith, ap length (rest all 1), length-drop 1 all)) (omega (arith, ap length (rest all 1), length-drop 1 all))))

pub element-returns-else-id-ne1 : goal.element-returns-else-id-ne1
element-returns-else-id-ne1 t c =
    let all = c.args.s.now in let k = c.in-Is.octets in let v = c.in-Is.value in
    let room = definite_room _ _ c.length_of.ensures _ _ (length_is c.in-Some.is c.in-Is.is) in
    c.filled.ensures
    ∙ behind_definite _ _ _ _ c.if-levels-eq0.false c.length_of.ensures _ _ (length_is c.in-Some.is c.in-Is.is) (omega arith) (omega arith) _
    (c.contents-in-Is.ensures v (all_before (omega (arith, length-take (k + v - k) (drop k all), length-drop k all)) (omega (arith, length-take (k + v - k) (drop k all), length-drop k all))))
