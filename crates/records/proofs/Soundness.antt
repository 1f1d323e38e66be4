-- The laws of sound sides and states. A sound side is its live records with unused places behind, so whatever keeps their list short and its ids apart keeps the side sound.
use Prim.Native.Nat.{ℕ, zero, suc, ◌-◌, ◌≤◌, ◌<◌}
use native.Mathlib.Omega.{arith}
use mathlib.Core.Path.{◌≡◌, refl, sym, ap, subst, ◌∙◌}
use mathlib.Core.Bool.{true, false, ◌&&◌}
use mathlib.Core.List.{List, [], ◌∷◌, ◌++◌, append_assoc}
use borrow.Author.Tests.{eqb-true, lt-ltb, le-leb, leb-true}
use lib.Dec.{eqb, leb}
use lib.ListN.{length, drop, replicate, length-append, length-take, length-drop, take-append-drop}
use lib.Seq.{set-append_seam, take-append_seam, drop-append_seam, length-take-le}
use Rattle.base.proofs.Tests.{and_true, and_left, and_right}
use Rattle.codes.specs.Code.{same_code, code_right}
use Rattle.codes.proofs.CodeLaws.{same_code_equal}
use Rattle.records.specs.declared.Record.{Record}
use Rattle.records.specs.declared.Records.{Records}
use Rattle.records.specs.Limits.{records, resting, answers}
use Rattle.records.specs.Records.{unused, view, pack, member, without, distinct, formed, blank, sound_records, added, retired}
use Rattle.records.specs.Resting.{pack_ids, view_ids, sound_resting}
use Rattle.records.specs.Kept.{sound_kept}
use Rattle.records.specs.Held.{Held, fresh_held, sound_held, in_state, kept_answers, keep_these}
use Rattle.records.proofs.IdLaws.{one_less}
use Rattle.records.proofs.Laws.{distinct_added, distinct_without, formed_added, formed_without, without_shorter, without_absent}
use Rattle.records.proofs.RestingLaws.{SoundResting, resting_test, resting_is_packed, none_rests}
use Rattle.records.proofs.KeptLaws.{none_kept}
use Rattle.records.proofs.StoreLaws.{SoundStore, store_test, packed_store}
use Rattle.records.proofs.PackedLaws.{store_of_test}

-- ---- the list and the side that holds it

pub view_pack : (l : List Record) → view (pack l) ≡ l
view_pack l = take-append_seam l (replicate (records - length l) unused)

-- adding to a packed side packs one record more
pub added_pack : (l : List Record) (r : Record) → length l < records → added (pack l) r ≡ pack (l ++ r ∷ [])
added_pack l r p =
    let e = one_less records (length l) p in
    simp (lt-ltb _ _ p, e, set-append_seam, length-append, append_assoc)

pub view_retired : (s : Records) (n : ℕ) → view (retired s n) ≡ without n (view s)
view_retired s n = view_pack (without n (view s))

-- ---- unused places

blank_replicate : (k : ℕ) → blank (replicate k unused) ≡ true
unfolding same_code
blank_replicate zero = refl
blank_replicate (suc k) = blank_replicate k

made_unused : (r : Record) → r.id ≡ unused.id → r.code ≡ unused.code → r ≡ unused
made_unused r p q =
    let e : ◌≡◌ {A = Record} (record { id = r.id; code = r.code }) (record { id = unused.id; code = unused.code }) = cc in
    e

pub blank_is_unused : (l : List Record) → blank l ≡ true → l ≡ replicate (length l) unused
blank_is_unused [] h = refl
blank_is_unused (r ∷ l) h =
    let place = and_left (eqb r.id 0 && same_code r.code unused.code) (blank l) h in
    let id = eqb-true r.id 0 (and_left (eqb r.id 0) (same_code r.code unused.code) place) in
    let code = same_code_equal r.code unused.code (and_right (eqb r.id 0) (same_code r.code unused.code) place) in
    let rest = blank_is_unused l (and_right (eqb r.id 0 && same_code r.code unused.code) (blank l) h) in
    rw (made_unused r id code, ← rest)

-- ---- a sound side

module _ (s : Records) (h : sound_records s ≡ true) where
  pub sound_is_short : s.count ≤ records
  sound_is_short = leb-true s.count records (and_left (leb s.count records) _ h)

  behind_count : (distinct (view s) && (formed (view s) && blank (drop s.count s.places))) ≡ true
  behind_count = and_right (leb s.count records) _ h

  behind_distinct : (formed (view s) && blank (drop s.count s.places)) ≡ true
  behind_distinct = and_right (distinct (view s)) _ behind_count

  pub sound_is_distinct : distinct (view s) ≡ true
  sound_is_distinct = and_left (distinct (view s)) _ behind_count

  pub sound_is_formed : formed (view s) ≡ true
  sound_is_formed = and_left (formed (view s)) _ behind_distinct

  pub sound_is_blank : blank (drop s.count s.places) ≡ true
  sound_is_blank = and_right (formed (view s)) _ behind_distinct

-- a sound side is its live records with unused places behind
pub sound_is_packed : (s : Records) → length s.places ≡ records → sound_records s ≡ true → s ≡ pack (view s)
sound_is_packed s full h =
    let few = sound_is_short s h in
    let n : length (view s) ≡ s.count = length-take-le s.count s.places (omega arith) in
    let left : length (drop s.count s.places) ≡ records - length (view s) = omega (arith, length-drop s.count s.places) in
    let clear : drop s.count s.places ≡ replicate (records - length (view s)) unused =
    blank_is_unused (drop s.count s.places) (sound_is_blank s h) ∙ ap (λ (k : ℕ). replicate k unused) left in
    let all : s.places ≡ view s ++ replicate (records - length (view s)) unused = sym (take-append-drop s.count s.places) ∙ (λ t. view s ++ clear t) in
    λ t. record { count = sym n t; places = all t }

-- what the laws keep of a side: a list in the logic may have any length, so that the side is packed is said beside the test
pub record Sound (s : Records) : Type 0 where
  pub test : sound_records s ≡ true
  pub packed : s ≡ pack (view s)

pub packed_is_sound : (l : List Record) → length l ≤ records → distinct l ≡ true → formed l ≡ true → Sound (pack l)
packed_is_sound l few once form =
    record {
      test = simp (le-leb _ _ few, take-append_seam, drop-append_seam, once, form, blank_replicate);
      packed = ap pack (sym (view_pack l));
    }

module _ {s : Records} (h : Sound s) where
  -- the new record goes last
  pub added_is_packed : (r : Record) → length (view s) < records → added s r ≡ pack (view s ++ r ∷ [])
  added_is_packed r room = ap (λ (t : Records). added t r) h.packed ∙ added_pack (view s) r room

  pub view_added : (r : Record) → length (view s) < records → view (added s r) ≡ view s ++ r ∷ []
  view_added r room = ap view (added_is_packed r room) ∙ view_pack (view s ++ r ∷ [])

  pub added_is_sound : (r : Record) → length (view s) < records → member r.id (view s) ≡ false → code_right r.code ≡ true → Sound (added s r)
  added_is_sound r room new form =
      subst Sound (sym (added_is_packed r room))
      (packed_is_sound (view s ++ r ∷ []) (omega (arith, length-append (view s) (r ∷ []))) (distinct_added (view s) r (sound_is_distinct s h.test) new) (formed_added (view s) r (sound_is_formed s h.test) form))

  pub retired_is_sound : (n : ℕ) → Sound (retired s n)
  retired_is_sound n =
      packed_is_sound (without n (view s))
      (omega (arith, without_shorter n (view s), length-take s.count s.places, sound_is_short s h.test))
      (distinct_without n (view s) (sound_is_distinct s h.test))
      (formed_without n (view s) (sound_is_formed s h.test))

  -- validates `retired`: an id that is not there retires nothing
  pub retired_absent : (n : ℕ) → member n (view s) ≡ false → retired s n ≡ s
  retired_absent n gone = ap pack (without_absent n (view s) gone) ∙ sym h.packed

-- ---- what an end holds is sound: each law is the law of a part

pub record SoundParts (s : Held) : Type 0 where
  pub own : Sound s.state.own
  pub peer : Sound s.state.peer
  pub resting : SoundResting (view s.state.own) s.state.resting
  pub kept : SoundStore (view s.state.peer) s.state.kept s.store

pub fresh_is_sound : SoundParts fresh_held
fresh_is_sound =
    let side = packed_is_sound [] (omega arith) refl refl in
    record { own = side; peer = side; resting = none_rests []; kept = packed_store [] (none_kept []) }

module _ {s : Held} (h : SoundParts s) where
  pub sound_state_lem : sound_held s ≡ true
  sound_state_lem = and_true h.own.test (and_true h.peer.test (and_true (resting_test h.resting) (store_test h.kept)))

-- the kept answers of a sound state are sound beside its peer records
pub held_peer_sound : (s : Held) → sound_held s ≡ true → sound_records s.state.peer ≡ true
held_peer_sound s h = and_left (sound_records s.state.peer) _ (and_right (sound_records s.state.own) _ h)

pub held_kept_sound : (s : Held) → sound_held s ≡ true → sound_kept (view s.state.peer) s.state.kept s.store ≡ true
held_kept_sound s h =
    and_right (sound_resting (view s.state.own) s.state.resting) _ (and_right (sound_records s.state.peer) _ (and_right (sound_records s.state.own) _ h))

-- validates `sound_state`: where each field has its places, as it has in code, a sound state and its store are their lists with unused places behind
pub sound_state_packed : (s : Held) → length s.state.own.places ≡ records → length s.state.peer.places ≡ records
    → length s.state.resting.ids ≡ resting → length s.state.kept.places ≡ answers → sound_held s ≡ true
    → s ≡ keep_these (in_state s (record { own = pack (view s.state.own); peer = pack (view s.state.peer); resting = pack_ids (view_ids s.state.resting); kept = s.state.kept })) (kept_answers s)
sound_state_packed s p u w i h =
    let behind = and_right (sound_records s.state.own) _ h in
    let last = and_right (sound_records s.state.peer) _ behind in
    let own = sound_is_packed s.state.own p (and_left (sound_records s.state.own) _ h) in
    let peer = sound_is_packed s.state.peer u (and_left (sound_records s.state.peer) _ behind) in
    let rest = resting_is_packed (view s.state.own) s.state.resting w (and_left _ _ last) in
    let kept = store_of_test (view s.state.peer) s.state.kept s.store i (held_kept_sound s h) in
    λ t. record { state = record { own = own t; peer = peer t; resting = rest t; kept = kept.packed t }; store = kept.filled t }
