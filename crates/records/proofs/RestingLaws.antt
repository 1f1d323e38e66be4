-- The laws of resting ids: sound ones are their list with zeros behind, and what a call does to the own records or to them keeps them sound.
use Prim.Native.Nat.{ℕ, suc, ◌+◌, ◌-◌, ◌≤◌, ◌<◌}
use native.Mathlib.Omega.{arith}
use mathlib.Core.Path.{◌≡◌, refl, sym, ap, subst, ◌∙◌}
use mathlib.Core.Bool.{Bool, true, false, not}
use mathlib.Core.List.{List, [], ◌∷◌, ◌++◌, append_assoc}
use mathlib.Core.Logic.{◌⊎◌, inl, inr}
use lib.Dec.{eqb, leb}
use lib.ListN.{length, drop, set, replicate, length-append, length-drop, take-append-drop}
use lib.Seq.{set-append_seam, take-append_seam, drop-append_seam, drop-append-le, drop-drop, length-take-le}
use borrow.Author.Tests.{eqb-true, eq-eqb, leb-false, leb-true, le-leb}
use Rattle.base.proofs.Tests.{cond_elim, and_left, and_right, or_cases, or_true_left, or_true_right}
use Rattle.records.specs.declared.Record.{Record}
use Rattle.records.specs.declared.Resting.{Resting}
use Rattle.records.specs.Limits.{resting}
use Rattle.records.specs.Records.{ids_of, member, without}
use Rattle.records.specs.Numbers.{among, each_once, none_among}
use Rattle.records.specs.Resting.{view_ids, pack_ids, sound_resting, staying, rested}
use Rattle.records.proofs.IdLaws.{never_both, one_less, among_added, once_added, zero_replicate, zero_is_replicate}
use Rattle.records.proofs.Laws.{member_added, member_without, member_gone}

-- ---- the list and its places

pub view_pack_ids : (l : List ℕ) → view_ids (pack_ids l) ≡ l
view_pack_ids l = take-append_seam l (replicate (resting - length l) 0)

-- an id put into the next place
pub next_place : (l : List ℕ) (i : ℕ) → length l < resting → set (pack_ids l).ids (length l) i ≡ (pack_ids (l ++ i ∷ [])).ids
next_place l i room =
    let e = one_less resting (length l) room in
    simp (e, set-append_seam, length-append, append_assoc)

-- validates `staying`: of all ids forgotten so far the last 64 rest, oldest first
pub last_rest : (l : List ℕ) (i : ℕ) → staying (drop (length l - resting) l) ++ i ∷ [] ≡ drop (length (l ++ i ∷ []) - resting) (l ++ i ∷ [])
last_rest l i = go (leb resting (length l)) refl
  where
    all : ℕ
    all = length l - resting

    n : length (drop all l) ≡ length l - all
    n = length-drop all l

    go : (b : Bool) → leb resting (length l) ≡ b → staying (drop all l) ++ i ∷ [] ≡ drop (length (l ++ i ∷ []) - resting) (l ++ i ∷ [])
    go true e =
        let p = leb-true resting (length l) e in
        let full : leb resting (length (drop all l)) ≡ true = le-leb resting (length (drop all l)) (omega (arith, n)) in
        let k : length (l ++ i ∷ []) - resting ≡ all + 1 = omega (arith, length-append l (i ∷ [])) in
        rw (full, k, drop-drop 1 all l, drop-append-le (all + 1) l (i ∷ []) (omega arith)) refl
    go false e =
        let p = leb-false resting (length l) e in
        let none : all ≡ 0 = omega arith in
        let k : length (l ++ i ∷ []) - resting ≡ 0 = omega (arith, length-append l (i ∷ [])) in
        rw (k, none, e) refl

-- validates `pack_ids`: where there are 64 places, as there are in code, sound ones are their list with zeros behind
pub resting_is_packed : (owns : List Record) (r : Resting) → length r.ids ≡ resting → sound_resting owns r ≡ true → r ≡ pack_ids (view_ids r)
resting_is_packed owns r full h =
    let few = leb-true r.count resting (and_left (leb r.count resting) _ h) in
    let behind = and_right (each_once (view_ids r)) _ (and_right (leb r.count resting) _ h) in
    let n : length (view_ids r) ≡ r.count = length-take-le r.count r.ids (omega arith) in
    let left : length (drop r.count r.ids) ≡ resting - length (view_ids r) = omega (arith, length-drop r.count r.ids) in
    let clear : drop r.count r.ids ≡ replicate (resting - length (view_ids r)) 0 =
    zero_is_replicate (drop r.count r.ids) (and_right (none_among (view_ids r) (ids_of owns)) _ behind) ∙ ap (λ (k : ℕ). replicate k 0) left in
    let ids : r.ids ≡ (pack_ids (view_ids r)).ids = sym (take-append-drop r.count r.ids) ∙ (λ t. view_ids r ++ clear t) in
    λ t. record { count = sym n t; ids = ids t }

-- ---- sound resting ids, beside the live own records

-- that they are packed is said beside what the test asks
pub record SoundResting (owns : List Record) (r : Resting) : Type 0 where
  pub few : length (view_ids r) ≤ resting
  pub once : each_once (view_ids r) ≡ true
  pub apart : (i : ℕ) → among i (view_ids r) ≡ true → member i owns ≡ false
  pub packed : r ≡ pack_ids (view_ids r)

pub none_live : (owns : List Record) (l : List ℕ) → ((i : ℕ) → among i l ≡ true → member i owns ≡ false) → none_among l (ids_of owns) ≡ true
none_live owns [] h = refl
none_live owns (x ∷ l) h =
    rw (h x (or_true_left (eqb x x) (among x l) (eq-eqb x x refl))) (none_live owns l (λ i m. h i (or_true_right (eqb x i) (among i l) m)))

packed_test : (owns : List Record) (l : List ℕ) → length l ≤ resting → each_once l ≡ true → none_among l (ids_of owns) ≡ true → sound_resting owns (pack_ids l) ≡ true
packed_test owns l few once apart = simp (le-leb _ _ few, view_pack_ids, drop-append_seam, once, apart, zero_replicate)

pub resting_test : {owns : List Record} {r : Resting} → SoundResting owns r → sound_resting owns r ≡ true
resting_test {owns} {r} h =
    subst (λ (q : Resting). sound_resting owns q ≡ true) (sym h.packed) (packed_test owns (view_ids r) h.few h.once (none_live owns (view_ids r) h.apart))

pub packed_rest : (owns : List Record) (l : List ℕ) → length l ≤ resting → each_once l ≡ true → ((i : ℕ) → among i l ≡ true → member i owns ≡ false) → SoundResting owns (pack_ids l)
packed_rest owns l few once apart = record {
  few = rw (view_pack_ids l) few;
  once = rw (view_pack_ids l) once;
  apart = λ i m. apart i (rw (view_pack_ids l) at m);
  packed = ap pack_ids (sym (view_pack_ids l));
}

pub none_rests : (owns : List Record) → SoundResting owns (pack_ids [])
none_rests owns = packed_rest owns [] (omega arith) refl (λ i m. absurd (never_both false m refl))

-- ---- what keeps them sound

module _ {owns : List Record} {r : Resting} (h : SoundResting owns r) where
  pub rest_retired : (i : ℕ) → SoundResting (without i owns) r
  rest_retired i = record { few = h.few; once = h.once; apart = λ j m. member_without i j owns (h.apart j m); packed = h.packed }

  -- a record whose id does not rest
  pub rest_added : (q : Record) → among q.id (view_ids r) ≡ false → SoundResting (owns ++ (q ∷ [])) r
  rest_added q new = record {
    few = h.few;
    once = h.once;
    apart = λ j m. member_added j owns q (h.apart j m) (λ e. never_both (among j (view_ids r)) m (rw e at new));
    packed = h.packed;
  }

  live_rests_not : (i : ℕ) → member i owns ≡ true → among i (view_ids r) ≡ false
  live_rests_not i m = go (among i (view_ids r)) refl
    where
      go : (b : Bool) → among i (view_ids r) ≡ b → among i (view_ids r) ≡ false
      go true e = absurd (never_both (member i owns) m (h.apart i e))
      go false e = e

-- those that stay leave room for one more, and are some of those that were there
record Roomy (l m : List ℕ) : Type 0 where
  few : suc (length m) ≤ resting
  once : each_once m ≡ true
  from : (i : ℕ) → among i m ≡ true → among i l ≡ true

roomy : (l : List ℕ) → length l ≤ resting → each_once l ≡ true → Roomy l (staying l)
roomy l few once =
    cond_elim (Roomy l) (leb resting (length l)) (drop 1 l) l (λ _. behind l few once) (λ e. record { few = omega (arith, leb-false resting (length l) e); once = once; from = λ i m. m })
  where
    behind : (l : List ℕ) → length l ≤ resting → each_once l ≡ true → Roomy l (drop 1 l)
    behind [] few once = record { few = omega arith; once = refl; from = λ i m. m }
    behind (x ∷ l) few once = record { few = few; once = and_right (not (among x l)) _ once; from = λ i m. or_true_right (eqb x i) (among i l) m }

-- a live id that is forgotten
pub rest_forgotten : {owns : List Record} {r : Resting} (i : ℕ) → member i owns ≡ true → SoundResting owns r → SoundResting (without i owns) (rested r i)
rest_forgotten {owns} {r} i live h =
    let m = staying (view_ids r) in
    let f = roomy (view_ids r) h.few h.once in
    packed_rest (without i owns) (m ++ (i ∷ [])) (omega (arith, length-append m (i ∷ []), f.few)) (once_added i m f.once (new m f.from (among i m) refl))
    (λ j e. apart m f.from j (or_cases (among j m) (eqb i j) (rw among_added at e)))
  where
    new : (m : List ℕ) → ((j : ℕ) → among j m ≡ true → among j (view_ids r) ≡ true) → (b : Bool) → among i m ≡ b → among i m ≡ false
    new m f true e = absurd (never_both (among i (view_ids r)) (f i e) (live_rests_not h i live))
    new m f false e = e

    apart : (m : List ℕ) → ((j : ℕ) → among j m ≡ true → among j (view_ids r) ≡ true) → (j : ℕ) → (among j m ≡ true) ⊎ (eqb i j ≡ true) → member j (without i owns) ≡ false
    apart m f j (inl e) = member_without i j owns (h.apart j (f j e))
    apart m f j (inr e) = rw (← (eqb-true i j e)) (member_gone i owns)
