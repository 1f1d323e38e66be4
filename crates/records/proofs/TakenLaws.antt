-- A record that leaves sound records: moving those behind it up is taking it out of the list.
use Prim.Native.Nat.{ℕ, suc, ◌+◌, ◌-◌, ◌<◌}
use native.Mathlib.Omega.{arith}
use mathlib.Core.Path.{◌≡◌, refl, sym, ap, subst, ◌∙◌}
use mathlib.Core.Bool.{Bool, true, false, cond, not, ◌||◌}
use mathlib.Core.List.{List, [], ◌∷◌, ◌++◌}
use borrow.Author.Tests.{eqb-true}
use lib.ListN.{length, take, drop, get_or, set, replicate, length-append, length-drop}
use lib.Seq.{drop-cons, set_at, length-take-le, take-take}
use Rattle.std.specs.Prelude.{Option, Some, None, position, ◌==◌}
use Rattle.std.specs.Option.{option_map}
use Rattle.std.specs.List.{copy_within}
use Rattle.std.proofs.lemmas.List.{drop-take}
use Rattle.records.specs.declared.Record.{Record}
use Rattle.records.specs.declared.Records.{Records}
use Rattle.records.specs.Limits.{records}
use Rattle.records.specs.Records.{unused, view, pack, member, without, distinct, sound_records, retired}
use Rattle.records.proofs.DropLaws.{position_cons}
use Rattle.records.proofs.Laws.{head_once, tail_distinct, without_absent}
use Rattle.records.proofs.Soundness.{blank_is_unused, sound_is_short, sound_is_distinct, sound_is_blank, sound_is_packed}

-- ---- the place of an id

-- without a place there is no record
pub unplaced : (n : ℕ) (l : List Record) → position (λ r. r.id == n) l ≡ None → member n l ≡ false
unplaced n [] h = refl
unplaced n (r ∷ l) h = go (r.id == n) (position (λ x. x.id == n) l) (sym (position_cons (λ x. x.id == n) r l) ∙ h) (unplaced n l)
  where
    go : (b : Bool) (o : Option ℕ) → cond b (Some 0) (option_map suc o) ≡ None → (o ≡ None → member n l ≡ false) → (b || member n l) ≡ false
    go true o e ih = absurd (let z : ⊥ = cc in z)
    go false None e ih = ih refl
    go false (Some j) e ih = absurd (let z : ⊥ = cc in z)

placed : (n i : ℕ) (l : List Record) → distinct l ≡ true → position (λ r. r.id == n) l ≡ Some i → (i < length l) × (without n l ≡ take i l ++ drop (suc i) l)
placed n i [] once h = absurd (let e : ⊥ = cc in e)
placed n i (r ∷ l) once h = go (r.id == n) refl (position (λ x. x.id == n) l) (sym (position_cons (λ x. x.id == n) r l) ∙ h) (λ j. placed n j l (tail_distinct r l once))
  where
    go : (b : Bool) → (r.id == n) ≡ b → (o : Option ℕ) → cond b (Some 0) (option_map suc o) ≡ Some i → ((j : ℕ) → o ≡ Some j → (j < length l) × (without n l ≡ take j l ++ drop (suc j) l))
        → (i < suc (length l)) × (cond (not b) (r ∷ without n l) (without n l) ≡ take i (r ∷ l) ++ drop (suc i) (r ∷ l))
    go true e o h ih =
        let z : 0 ≡ i = cc in
        rw (← z) (omega arith, without_absent n l (subst (λ (k : ℕ). member k l ≡ false) (eqb-true r.id n e) (head_once r l once)))
    go false e None h ih = absurd (let z : ⊥ = cc in z)
    go false e (Some j) h ih = let z : suc j ≡ i = cc in rw (← z) (let f = (ih j refl).0 in omega arith, ap (λ (x : List Record). r ∷ x) (ih j refl).1)

-- ---- what is left of sound records

module _ (s : Records) (full : length s.places ≡ records) (h : sound_records s ≡ true) (n : ℕ) where
  pub none_taken_out : position (λ r. r.id == n) (view s) ≡ None → s ≡ retired s n
  none_taken_out e = sound_is_packed s full h ∙ ap pack (sym (without_absent n (view s) (unplaced n (view s) e)))

  module _ (i : ℕ) (e : position (λ r. r.id == n) (view s) ≡ Some i) where
    live : length (view s) ≡ s.count
    live = length-take-le s.count s.places (let f = sound_is_short s h in omega arith)

    abbrev front : List Record
    front = take i s.places ++ take (s.count - (i + 1)) (drop (i + 1) s.places)

    within : i < s.count
    within = rw live at (placed n i (view s) (sound_is_distinct s h) e).0

    front_is : without n (view s) ≡ front
    front_is =
        let next : suc i ≡ i + 1 = omega arith in
        let behind : drop (suc i) (view s) ≡ take (s.count - (i + 1)) (drop (i + 1) s.places) =
        let k : (i + 1) + (s.count - (i + 1)) ≡ s.count = omega (arith, within) in
        (λ t. drop (next t) (take (sym k t) s.places)) ∙ drop-take (i + 1) (s.count - (i + 1)) s.places in
        (placed n i (view s) (sound_is_distinct s h) e).1 ∙ (λ t. take-take i s.count s.places (omega (arith, within)) t ++ behind t)

    front_length : length front ≡ s.count - 1
    front_length =
        let f = sound_is_short s h in
        omega (arith, within, full, length-append (take i s.places) (take (s.count - (i + 1)) (drop (i + 1) s.places)), length-take-le i s.places (omega (arith, within)), length-take-le (s.count - (i + 1)) (drop (i + 1) s.places) (omega (arith, length-drop (i + 1) s.places)))

    moved : copy_within s.places (i + 1) s.count i ≡ front ++ get_or s.places (s.count - 1) unused ∷ drop s.count s.places
    moved =
        let f = sound_is_short s h in
        let over : i + (s.count - (i + 1)) ≡ s.count - 1 = omega (arith, within) in
        let last : suc (s.count - 1) ≡ s.count = omega (arith, within) in
        let rest = drop-cons s.places (s.count - 1) unused (omega (arith, within, full)) ∙ ap (λ (j : ℕ). get_or s.places (s.count - 1) unused ∷ drop j s.places) last in
        ap (λ (j : ℕ). front ++ drop j s.places) over ∙ ap (λ (x : List Record). front ++ x) rest

    pub taken_out : (k : ℕ) → k ≡ length (view s) → (m : List Record) → m ≡ copy_within s.places (i + 1) k i → record { count = k - 1; places = set m (k - 1) unused } ≡ retired s n
    taken_out k c m g =
        let f = sound_is_short s h in
        let e : k ≡ s.count = c ∙ live in
        let here : m ≡ front ++ get_or s.places (s.count - 1) unused ∷ drop s.count s.places = g ∙ ap (λ (j : ℕ). copy_within s.places (i + 1) j i) e ∙ moved in
        let clear : drop s.count s.places ≡ replicate (records - s.count) unused =
        blank_is_unused (drop s.count s.places) (sound_is_blank s h) ∙ ap (λ (j : ℕ). replicate j unused) (omega (arith, full, length-drop s.count s.places)) in
        let fewer : length (without n (view s)) ≡ s.count - 1 = ap length front_is ∙ front_length in
        let more : suc (records - s.count) ≡ records - length (without n (view s)) = omega (arith, within, fewer) in
        let count : k - 1 ≡ length (without n (view s)) = omega (arith, e, fewer) in
        let places : set m (k - 1) unused ≡ without n (view s) ++ replicate (records - length (without n (view s))) unused =
        (λ t. set (here t) (e t - 1) unused)
        ∙ set_at front (get_or s.places (s.count - 1) unused) (drop s.count s.places) unused (s.count - 1) front_length
        ∙ (λ t. sym front_is t ++ unused ∷ clear t)
        ∙ ap (λ (j : ℕ). without n (view s) ++ replicate j unused) more in
        λ t. record { count = count t; places = places t }
