use Rattle.std.proofs.Common.{rules, ◌≡◌, ◌<◌, ◌+◌, ◌-◌, take, ◌++◌, ◌∷◌, [], List, ℕ, arith, length, drop, length-append, length-take, ap, ◌∙◌}
use Rattle.records.specs.declared.Resting.{Resting}
use Rattle.records.specs.Limits.{resting}
use Rattle.records.specs.Resting.{view_ids, staying, pack_ids}
use Rattle.records.proofs.PlaceLaws.{rested_is, stay_all, oldest_leaves, staying_room}
use Rattle.records.proofs.Resting.rest.Goals as goal
use Rattle.records.proofs.Resting.rest.Goals.{then-old-lt-RESTING, else-old-lt-RESTING}

pub returns : goal.returns
returns c =
    let st = c.if-old-lt-RESTING.staying.now in
    let e = c.as_slice-old.ensures in
    let is : st ≡ staying (view_ids c.args.self.now) =
    elim c.if-old-lt-RESTING.branch [
      | then-old-lt-RESTING w ↦ ap (λ b. b.now) w.staying-is ∙ e ∙ stay_all (view_ids c.args.self.now) (rw e at w.if-old-lt-RESTING.true)
      | else-old-lt-RESTING w ↦ ap (λ b. b.now) w.staying-is ∙ ap (λ (l : List ℕ). take (length l - 1) (drop 1 l)) e ∙ oldest_leaves (view_ids c.args.self.now) (rw e at w.if-old-lt-RESTING.false)
    ] in
    let full : length c.args.self.now.ids ≡ resting = search rules in
    let room : length st < resting = rw is (staying_room (view_ids c.args.self.now) (omega (arith, full, length-take c.args.self.now.count c.args.self.now.ids))) in
    let count : length st + 1 ≡ length (st ++ c.args.id ∷ []) = omega (arith, length-append st (c.args.id ∷ [])) in
    let all : ◌≡◌ {A = Resting} _ (pack_ids (st ++ c.args.id ∷ [])) = λ t. record { count = count t; ids = rested_is st c.copy_from_slice.new.self c.args.id c.copy_from_slice.ensures.after room t } in
    all ∙ ap (λ (l : List ℕ). pack_ids (l ++ c.args.id ∷ [])) is
