-- What cannot be kept changes nothing; the rest is what making room, putting octets and putting an answer promise.
use Rattle.std.proofs.Common.{rules, ◌≡◌, true, eqb, leb, length, ◌∙◌, eq-eqb, ne_eqb, le-leb, arith}
use borrow.Author.Tests.{lt-leb}
use Rattle.base.proofs.Tests.{and_true, and_false_left, and_false_right}
use Rattle.records.specs.Limits.{answer_octets, store_octets}
use Rattle.records.specs.Steps.{fits, kept_room, store_room}
use Rattle.records.proofs.PlaceLaws.{room_full, room_left, kept_not, kept_is_next}
use Rattle.records.proofs.Kept.keep.Goals as goal
use Rattle.records.proofs.Kept.keep.Goals.{then-self-eq-ANSWERS, else-self-eq-ANSWERS}

pub returns-then-apdu-gt-ANSWER_OCTETS : goal.returns-then-apdu-gt-ANSWER_OCTETS
returns-then-apdu-gt-ANSWER_OCTETS c =
    let b = c.args in
    let w = kept_not b.self.now b.store.now b.id b.apdu.now (and_false_left _ _ (lt-leb _ _ c.if-apdu-gt-ANSWER_OCTETS.true)) in
    record { places = search rules; kept = w.0; store = w.1 }

pub returns-then-store-ne-STORE_OCTETS : goal.returns-then-store-ne-STORE_OCTETS
returns-then-store-ne-STORE_OCTETS c =
    let b = c.args in
    let w = kept_not b.self.now b.store.now b.id b.apdu.now (and_false_right (leb (length b.apdu.now) answer_octets) _ (and_false_left _ _ (ne_eqb _ _ c.if-store-ne-STORE_OCTETS.true))) in
    record { places = search rules; kept = w.0; store = w.1 }

pub returns-then-self-gt-ANSWERS : goal.returns-then-self-gt-ANSWERS
returns-then-self-gt-ANSWERS c =
    let b = c.args in
    let w = kept_not b.self.now b.store.now b.id b.apdu.now (and_false_right (leb (length b.apdu.now) answer_octets) _ (and_false_right (eqb (length b.store.now) store_octets) _ (lt-leb _ _ c.if-self-gt-ANSWERS.true))) in
    record { places = search rules; kept = w.0; store = w.1 }

pub returns : goal.returns
returns c =
    let b = c.args in let j = c.if-self-eq-ANSWERS in
    let room : (j.self ≡ kept_room b.self.now) × (j.store ≡ store_room b.self.now b.store.now) =
    elim j.branch [
      | then-self-eq-ANSWERS w ↦
          let r = room_full b.self.now b.store.now w.if-self-eq-ANSWERS.true in
          (w.self-is ∙ w.close.ensures ∙ r.0, w.store-is ∙ w.close_octets.ensures ∙ r.1)
      | else-self-eq-ANSWERS w ↦
          let r = room_left b.self.now b.store.now (omega (arith, w.if-self-eq-ANSWERS.false, c.if-self-gt-ANSWERS.false)) in
          (w.self-is ∙ r.0, w.store-is ∙ r.1)
    ] in
    let can : fits b.self.now b.store.now b.apdu.now ≡ true =
    and_true (le-leb _ _ c.if-apdu-gt-ANSWER_OCTETS.false) (and_true (eq-eqb _ _ c.if-store-ne-STORE_OCTETS.false) (le-leb _ _ c.if-self-gt-ANSWERS.false)) in
    let next = kept_is_next b.self.now b.store.now b.id b.apdu.now can j.self j.store _ room.0 room.1 c.put_octets.ensures.octets in
    record { places = search rules; kept = c.put.ensures ∙ next.0; store = next.1 }
