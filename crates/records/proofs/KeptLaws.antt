-- The laws of a list of kept answers: what keeping one more, dropping one and a change of the peer records do to it.
use Prim.Native.Nat.{ℕ, suc, ◌≤◌}
use native.Mathlib.Omega.{arith}
use mathlib.Core.Path.{◌≡◌, refl, sym, ap}
use mathlib.Core.Bool.{Bool, true, false, cond, not, false≢true, ◌||◌}
use mathlib.Core.List.Memᴰ.{append_cases as in-cases}
use mathlib.Core.List.Memᴰ.{cases_cons as in-cons}
use mathlib.Core.List.Memᴰ.{eq_of_singleton as in_one}
use mathlib.Core.List.Memᴰ.{head as here}
use mathlib.Core.List.Memᴰ.{not-nil as in-nil}
use mathlib.Core.List.Memᴰ.{tail as there}
use mathlib.Core.List.{List, [], ◌∷◌, ◌++◌, Memᴰ as In}
use mathlib.Core.Logic.{◌⊎◌, inl, inr}
use lib.Dec.{eqb, leb}
use lib.ListN.{length, drop, length-append}
use borrow.Author.Tests.{eqb-true, eq-eqb, leb-true, leb-false}
use Rattle.base.proofs.Tests.{cond_elim, and_right, or_true_left, or_true_right}
use Rattle.records.specs.declared.Record.{Record}
use Rattle.records.specs.Limits.{answers, answer_octets}
use Rattle.records.specs.Numbers.{each_once, leaving}
use Rattle.records.specs.Records.{member, without}
use Rattle.records.specs.Kept.{KeptAnswer, answer_ids, is_kept, kept_apdu, kept_without, with_room, keeping}
use Rattle.records.proofs.IdLaws.{left_out, never_both, once_added, among_left, once_leaving}
use Rattle.records.proofs.Laws.{member_added, member_without}

-- ---- ids and answers

pub answer_ids_append : (a b : List KeptAnswer) → answer_ids (a ++ b) ≡ answer_ids a ++ answer_ids b
answer_ids_append [] b = refl
answer_ids_append (k ∷ a) b = ap (λ (x : List ℕ). k.id ∷ x) (answer_ids_append a b)

answer_ids_without : (i : ℕ) (l : List KeptAnswer) → answer_ids (kept_without i l) ≡ leaving i (answer_ids l)
answer_ids_without i [] = refl
answer_ids_without i (k ∷ l) = go (eqb k.id i) (answer_ids_without i l)
  where
    go : (b : Bool) → answer_ids (kept_without i l) ≡ leaving i (answer_ids l)
        → answer_ids (cond (not b) (k ∷ kept_without i l) (kept_without i l)) ≡ cond (not b) (k.id ∷ leaving i (answer_ids l)) (leaving i (answer_ids l))
    go true ih = ih
    go false ih = rw ih

-- an id that is kept has its answer
pub in_kept : (i : ℕ) (l : List KeptAnswer) → is_kept i l ≡ true → In (record { id = i; apdu = kept_apdu i l }) l
in_kept i [] h = absurd (false≢true h)
in_kept i (k ∷ l) h = go (eqb k.id i) refl (in_kept i l) h
  where
    go : (b : Bool) → eqb k.id i ≡ b → (is_kept i l ≡ true → In (record { id = i; apdu = kept_apdu i l }) l) → (b || is_kept i l) ≡ true
        → In (record { id = i; apdu = cond b k.apdu (kept_apdu i l) }) (k ∷ l)
    go true e ih h = here (ap {B = KeptAnswer} (λ n. record { id = n; apdu = k.apdu }) (sym (eqb-true k.id i e)))
    go false e ih h = there (ih h)

-- and an answer that is kept has its id
pub kept_in : {k : KeptAnswer} (l : List KeptAnswer) → In k l → is_kept k.id l ≡ true
kept_in [] m = absurd (in-nil m)
kept_in {k} (x ∷ l) m = go (kept_in l) (in-cons m)
  where
    go : (In k l → is_kept k.id l ≡ true) → (k ≡ x) ⊎ In k l → is_kept k.id (x ∷ l) ≡ true
    go ih (inl e) = or_true_left (eqb x.id k.id) (is_kept k.id l) (eq-eqb x.id k.id (ap (λ (q : KeptAnswer). q.id) (sym e)))
    go ih (inr n) = or_true_right (eqb x.id k.id) (is_kept k.id l) (ih n)

-- ---- one is dropped

pub in_kept_without : {k : KeptAnswer} (i : ℕ) (l : List KeptAnswer) → In k (kept_without i l) → In k l
in_kept_without i [] m = m
in_kept_without {k} i (x ∷ l) m = go (eqb x.id i) (in_kept_without i l) m
  where
    cons : (In k (kept_without i l) → In k l) → (k ≡ x) ⊎ In k (kept_without i l) → In k (x ∷ l)
    cons ih (inl e) = here e
    cons ih (inr m) = there (ih m)

    go : (b : Bool) → (In k (kept_without i l) → In k l) → In k (cond (not b) (x ∷ kept_without i l) (kept_without i l)) → In k (x ∷ l)
    go true ih m = there (ih m)
    go false ih m = cons ih (in-cons m)

kept_shorter : (i : ℕ) (l : List KeptAnswer) → length (kept_without i l) ≤ length l
kept_shorter i [] = omega arith
kept_shorter i (x ∷ l) =
    let rest = kept_shorter i l in
    left_out (λ (m : List KeptAnswer). length m ≤ length (x ∷ l)) (eqb x.id i) x (kept_without i l) (λ _. omega arith) (λ _. omega arith)

-- ---- one is kept: the oldest of eight makes room

in_behind : {k : KeptAnswer} (l : List KeptAnswer) → In k (drop 1 l) → In k l
in_behind [] m = m
in_behind (x ∷ l) m = there m

pub in_room : {k : KeptAnswer} (l : List KeptAnswer) → In k (with_room l) → In k l
in_room {k} l m = go (leb answers (length l)) m
  where
    go : (b : Bool) → In k (cond b (drop 1 l) l) → In k l
    go true m = in_behind l m
    go false m = m

pub room_length : (l : List KeptAnswer) → length l ≤ answers → suc (length (with_room l)) ≤ answers
room_length l h =
    cond_elim (λ (m : List KeptAnswer). suc (length m) ≤ answers) (leb answers (length l)) (drop 1 l) l (λ e. behind l h) (λ e. omega (arith, leb-false answers (length l) e))
  where
    behind : (l : List KeptAnswer) → length l ≤ answers → suc (length (drop 1 l)) ≤ answers
    behind [] h = omega arith
    behind (x ∷ l) h = h

room_once : (l : List KeptAnswer) → each_once (answer_ids l) ≡ true → each_once (answer_ids (with_room l)) ≡ true
room_once l h = cond_elim (λ (m : List KeptAnswer). each_once (answer_ids m) ≡ true) (leb answers (length l)) (drop 1 l) l (λ _. behind l h) (λ _. h)
  where
    behind : (l : List KeptAnswer) → each_once (answer_ids l) ≡ true → each_once (answer_ids (drop 1 l)) ≡ true
    behind [] h = refl
    behind (x ∷ l) h = and_right (not (is_kept x.id l)) _ h

-- an answer that is kept afterwards was kept before, or is the new one
pub in_keeping : {q : KeptAnswer} (l : List KeptAnswer) (k : KeptAnswer) → In q (keeping l k) → In q l ⊎ (q ≡ k)
unfolding keeping
in_keeping {q} l k m = go (leb (length k.apdu) answer_octets) m
  where
    last : In q (with_room l) ⊎ In q (k ∷ []) → In q l ⊎ (q ≡ k)
    last (inl a) = inl (in_room l a)
    last (inr a) = inr (in_one a)

    go : (b : Bool) → In q (cond b (with_room l ++ (k ∷ [])) l) → In q l ⊎ (q ≡ k)
    go true m = last (in-cases (with_room l) m)
    go false m = inl m

-- ---- sound kept answers, beside the live peer records

-- each has at most 512 octets
abbrev pub Short : List KeptAnswer → Type 0
Short l = (k : KeptAnswer) → In k l → length k.apdu ≤ answer_octets

pub short_keeping : (l : List KeptAnswer) (k : KeptAnswer) → Short l → Short (keeping l k)
unfolding keeping
short_keeping l k h =
    cond_elim Short (leb (length k.apdu) answer_octets) (with_room l ++ (k ∷ [])) l
    (λ e q m. few q (leb-true (length k.apdu) answer_octets e) (in-cases (with_room l) m)) (λ _. h)
  where
    few : (q : KeptAnswer) → length k.apdu ≤ answer_octets → In q (with_room l) ⊎ In q (k ∷ []) → length q.apdu ≤ answer_octets
    few q e (inl m) = h q (in_room l m)
    few q e (inr m) = rw (in_one m) e

pub record SoundKept (peers : List Record) (l : List KeptAnswer) : Type 0 where
  pub few : length l ≤ answers
  pub once : each_once (answer_ids l) ≡ true
  pub apart : (i : ℕ) → is_kept i l ≡ true → member i peers ≡ false
  pub short : Short l

pub none_kept : (peers : List Record) → SoundKept peers []
none_kept peers = record { few = omega arith; once = refl; apart = λ i m. absurd (false≢true m); short = λ k m. absurd (in-nil m) }

-- what is false of an id among answers where it has one
no_answer : (i : ℕ) (l : List KeptAnswer) → ((k : KeptAnswer) → In k l → k.id ≡ i → ⊥) → is_kept i l ≡ false
no_answer i l h = go (is_kept i l) refl
  where
    go : (b : Bool) → is_kept i l ≡ b → is_kept i l ≡ false
    go true e = absurd (h (record { id = i; apdu = kept_apdu i l }) (in_kept i l e) refl)
    go false e = e

module _ {peers : List Record} {l : List KeptAnswer} (h : SoundKept peers l) where
  -- a live peer record's id has no kept answer
  pub live_kept_not : (i : ℕ) → member i peers ≡ true → is_kept i l ≡ false
  live_kept_not i m = no_answer i l (λ k n e. never_both (member i peers) m (rw e at (h.apart k.id (kept_in l n))))

  pub kept_dropped : (i : ℕ) → SoundKept peers (kept_without i l)
  kept_dropped i = record {
    few = omega (arith, kept_shorter i l, h.few);
    once = rw (answer_ids_without i l) (once_leaving i (answer_ids l) h.once);
    apart = λ j m. h.apart j (kept_in l (in_kept_without i l (in_kept j (kept_without i l) m)));
    short = λ k m. h.short k (in_kept_without i l m);
  }

  -- a peer record leaves
  pub kept_retired : (i : ℕ) → SoundKept (without i peers) l
  kept_retired i = record { few = h.few; once = h.once; apart = λ j m. member_without i j peers (h.apart j m); short = h.short }

  -- a peer record comes, and the kept answer of its id goes
  pub kept_added : (r : Record) → SoundKept (peers ++ (r ∷ [])) (kept_without r.id l)
  kept_added r = record {
    few = (kept_dropped r.id).few;
    once = (kept_dropped r.id).once;
    apart = λ j m. member_added j peers r ((kept_dropped r.id).apart j m)
        (λ e. never_both (is_kept j (kept_without r.id l)) m (rw (answer_ids_without, ← e) (among_left r.id (answer_ids l))));
    short = (kept_dropped r.id).short;
  }

  -- an answer is kept
  pub kept_kept : (k : KeptAnswer) → member k.id peers ≡ false → is_kept k.id l ≡ false → SoundKept peers (keeping l k)
  unfolding keeping
  kept_kept k n a = record {
    few = cond_elim (λ (m : List KeptAnswer). length m ≤ answers) (leb (length k.apdu) answer_octets) (with_room l ++ (k ∷ [])) l
        (λ _. omega (arith, length-append (with_room l) (k ∷ []), room_length l h.few)) (λ _. h.few);
    once = cond_elim (λ (m : List KeptAnswer). each_once (answer_ids m) ≡ true) (leb (length k.apdu) answer_octets) (with_room l ++ (k ∷ [])) l
        (λ _. rw (answer_ids_append (with_room l) (k ∷ [])) (once_added k.id (answer_ids (with_room l)) (room_once l h.once) new)) (λ _. h.once);
    apart = λ j m. apart j (in_keeping l k (in_kept j (keeping l k) m));
    short = short_keeping l k h.short;
  }
    where
      new : is_kept k.id (with_room l) ≡ false
      new = no_answer k.id (with_room l) (λ q m e. never_both (is_kept k.id l) (rw e at (kept_in l (in_room l m))) a)

      apart : (j : ℕ) → {x : List ℕ} → In (record { id = j; apdu = x }) l ⊎ (record { id = j; apdu = x } ≡ k) → member j peers ≡ false
      apart j (inl m) = h.apart j (kept_in l m)
      apart j (inr e) = rw (ap (λ (q : KeptAnswer). q.id) e) n
