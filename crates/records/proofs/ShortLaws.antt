-- The kept answers of a sound state have at most 512 octets each, whatever lengths its lists have: what `take` finds is never longer than was asked for.
use Prim.Native.Nat.{ℕ, ◌≤◌}
use native.Mathlib.Omega.{arith}
use mathlib.Core.Path.{◌≡◌}
use mathlib.Core.Bool.{true}
use mathlib.Core.List.Memᴰ.{cases_cons as in-cons}
use mathlib.Core.List.Memᴰ.{not-nil as in-nil}
use mathlib.Core.List.{List, [], ◌∷◌, Memᴰ as In}
use mathlib.Core.Logic.{◌⊎◌, inl, inr}
use lib.Dec.{eqb, leb}
use lib.ListN.{length, take, drop, length-take}
use borrow.Author.Tests.{leb-true}
use Rattle.base.proofs.Tests.{and_left, and_right}
use Rattle.records.specs.declared.Record.{Record}
use Rattle.records.specs.declared.KeptPlace.{KeptPlace}
use Rattle.records.specs.declared.Kept.{Kept}
use Rattle.records.specs.Limits.{answers, answer_octets, store_octets}
use Rattle.records.specs.Numbers.{each_once, none_among}
use Rattle.records.specs.Records.{view, ids_of, sound_records}
use Rattle.records.specs.Resting.{sound_resting}
use Rattle.records.specs.Kept.{KeptAnswer, kept_places, place_ids, answers_in, view_kept, all_short, sound_kept}
use Rattle.records.specs.Held.{Held, sound_held, kept_answers}
use Rattle.records.proofs.KeptLaws.{Short}

short_more : (k : KeptAnswer) (l : List KeptAnswer) → length k.apdu ≤ answer_octets → Short l → Short (k ∷ l)
short_more k l h more q m = go (in-cons m)
  where
    go : (q ≡ k) ⊎ In q l → length q.apdu ≤ answer_octets
    go (inl e) = rw e h
    go (inr n) = more q n

pub answers_short : (l : List KeptPlace) (store : List ℕ) → all_short l ≡ true → Short (answers_in l store)
answers_short [] store h = λ k m. absurd (in-nil m)
answers_short (p ∷ l) store h =
    let few : length (take p.length store) ≤ answer_octets = omega (arith, length-take p.length store, leb-true p.length answer_octets (and_left _ _ h)) in
    short_more _ _ few (answers_short l (drop answer_octets store) (and_right (leb p.length answer_octets) _ h))

pub kept_short : (peers : List Record) (k : Kept) (store : List ℕ) → sound_kept peers k store ≡ true → Short (view_kept k store)
unfolding sound_kept view_kept
kept_short peers k store h =
    let ids = place_ids (kept_places k) in
    let few = and_right (eqb (length store) store_octets) _ h in
    let once = and_right (leb k.count answers) _ few in
    let apart = and_right (each_once ids) _ once in
    let short = and_right (none_among ids (ids_of peers)) _ apart in
    answers_short (kept_places k) store (and_left (all_short (kept_places k)) _ short)

-- validates `sound_held`: no kept answer is over 512 octets
pub held_short : (s : Held) → sound_held s ≡ true → Short (kept_answers s)
held_short s h =
    let peer = and_right (sound_records s.state.own) _ h in
    let rest = and_right (sound_records s.state.peer) _ peer in
    kept_short (view s.state.peer) s.state.kept s.store (and_right (sound_resting (view s.state.own) s.state.resting) _ rest)
