-- Those behind the record move up, or nothing changes.
use Rattle.std.proofs.Common.{rules, ◌≡◌, ◌∙◌, sym, length}
use Rattle.records.specs.Limits.{records}
use Rattle.records.proofs.TakenLaws.{taken_out, none_taken_out}
use Rattle.records.proofs.Records.take_out.Goals as goal

pub returns-in-Some : goal.returns-in-Some
returns-in-Some c = λ h.
    let full : length c.args.self.now.places ≡ records = search rules in
    taken_out c.args.self.now full h c.args.id c.in-Some.place (sym c.place.ensures ∙ c.in-Some.is) _ c.len-live.ensures _ c.copy_within.ensures.after

pub returns-in_default : goal.returns-in_default
returns-in_default c = λ h.
    let full : length c.args.self.now.places ≡ records = search rules in
    none_taken_out c.args.self.now full h c.args.id (sym c.place.ensures ∙ c.in_default.is)
