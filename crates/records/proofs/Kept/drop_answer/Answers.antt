-- The answer leaves its place where the id has one, and nothing changes where it has none.
use Rattle.std.proofs.Common.{rules, sym, ◌∙◌, ◌≡◌}
use Rattle.std.specs.Prelude.{None}
use Rattle.records.specs.Kept.{answer_place}
use Rattle.records.proofs.PlaceLaws.{less_elsewhere, less_none, less_one}
use Rattle.records.proofs.Kept.drop_answer.Goals as goal

pub returns-then-store-ne-STORE_OCTETS : goal.returns-then-store-ne-STORE_OCTETS
returns-then-store-ne-STORE_OCTETS c =
    let w = less_elsewhere c.args.self.now c.args.store.now c.args.id c.if-store-ne-STORE_OCTETS.true in
    record { places = search rules; kept = w.0; store = w.1 }

pub returns-in-Some : goal.returns-in-Some
returns-in-Some c =
    let b = c.args in
    let w = less_one b.self.now b.store.now b.id c.in-Some.place c.if-store-ne-STORE_OCTETS.false (sym c.place.ensures ∙ c.in-Some.is) in
    record { places = search rules; kept = c.close.ensures ∙ w.0; store = c.close_octets.ensures ∙ w.1 }

pub returns-in_default : goal.returns-in_default
returns-in_default c =
    let none : answer_place c.args.id c.args.self.now ≡ None = sym c.place.ensures ∙ c.in_default.is in
    let w = less_none c.args.self.now c.args.store.now c.args.id c.if-store-ne-STORE_OCTETS.false none in
    record { places = search rules; kept = w.0; store = w.1 }
