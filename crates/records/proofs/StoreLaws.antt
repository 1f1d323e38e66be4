-- Kept answers put down in the state and the store: what is read of a list that was put down, and that a sound list stays sound there.
use Prim.Native.Nat.{ℕ, zero, suc, ◌-◌, ◌*◌, ◌≤◌}
use native.Mathlib.Omega.{arith}
use mathlib.Core.Path.{◌≡◌, refl, sym, ap, subst, ◌∙◌}
use mathlib.Core.Bool.{true}
use mathlib.Core.List.Memᴰ.{head as here}
use mathlib.Core.List.Memᴰ.{tail as there}
use mathlib.Core.List.{List, [], ◌∷◌, ◌++◌, map, append_assoc}
use lib.ListN.{length, take, drop, replicate, length-append, length-map, length-replicate}
use lib.Seq.{take-append_seam, drop-append_seam}
use borrow.Author.Tests.{eq-eqb, le-leb}
use Rattle.base.proofs.Tests.{and_true}
use Rattle.records.specs.declared.Record.{Record}
use Rattle.records.specs.declared.Kept.{Kept}
use Rattle.records.specs.Limits.{answers, answer_octets, store_octets}
use Rattle.records.specs.Numbers.{all_zero}
use Rattle.std.specs.List.{list_all}
use Rattle.records.specs.declared.KeptPlace.{KeptPlace}
use Rattle.records.specs.Kept.{KeptAnswer, answer_ids, kept_places, place_ids, no_answer, is_free, answers_in, view_kept, place_for, pack_kept, block, blocks, pack_store, all_short, clear_behind, sound_kept}
use Rattle.records.proofs.IdLaws.{zero_replicate}
use Rattle.records.proofs.RestingLaws.{none_live}
use Rattle.records.proofs.KeptLaws.{Short, SoundKept}

-- the places of these answers
abbrev pub places_for : List KeptAnswer → List KeptPlace
places_for l = map place_for l

pub places_length : (l : List KeptAnswer) → length (places_for l) ≡ length l
places_length l = length-map l place_for

pub places_ids : (l : List KeptAnswer) → place_ids (places_for l) ≡ answer_ids l
places_ids [] = refl
places_ids (k ∷ l) = ap (λ (x : List ℕ). k.id ∷ x) (places_ids l)

pub block_length : (k : KeptAnswer) → length k.apdu ≤ answer_octets → length (block k) ≡ answer_octets
block_length k h = omega (arith, length-append k.apdu (replicate (answer_octets - length k.apdu) 0), length-replicate {A = ℕ} (answer_octets - length k.apdu) 0)

pub blocks_length : (l : List KeptAnswer) → Short l → length (blocks l) ≡ answer_octets * length l
blocks_length [] h = refl
blocks_length (k ∷ l) h = omega (arith, length-append (block k) (blocks l), block_length k (h k (here refl)), blocks_length l (λ q m. h q (there m)))

pub store_length : (l : List KeptAnswer) → Short l → length l ≤ answers → length (pack_store l) ≡ store_octets
unfolding pack_store
store_length l h few =
    let n : ℕ = answer_octets * (answers - length l) in
    omega (arith, length-append (blocks l) (replicate n 0), blocks_length l h, length-replicate {A = ℕ} n 0)

-- seams at a number
module _ {A : Type 0} where
  pub take_to : (n : ℕ) (x y : List A) → length x ≡ n → take n (x ++ y) ≡ x
  take_to n x y e = ap (λ (j : ℕ). take j (x ++ y)) (sym e) ∙ take-append_seam x y

  pub drop_to : (n : ℕ) (x y : List A) → length x ≡ n → drop n (x ++ y) ≡ y
  drop_to n x y e = ap (λ (j : ℕ). drop j (x ++ y)) (sym e) ∙ drop-append_seam x y

-- ---- the first block, and what stands behind it

module _ (k : KeptAnswer) (h : length k.apdu ≤ answer_octets) (r : List ℕ) where
  block_first : take answer_octets (block k ++ r) ≡ block k
  block_first = take_to answer_octets (block k) r (block_length k h)

  block_rest : drop answer_octets (block k ++ r) ≡ r
  block_rest = drop_to answer_octets (block k) r (block_length k h)

  block_apdu : take (length k.apdu) (block k ++ r) ≡ k.apdu
  block_apdu =
      ap (take (length k.apdu)) (append_assoc k.apdu (replicate (answer_octets - length k.apdu) 0) r)
      ∙ take-append_seam k.apdu (replicate (answer_octets - length k.apdu) 0 ++ r)

-- ---- what is read of a list that was put down

view_blocks : (l : List KeptAnswer) (r : List ℕ) → Short l → answers_in (places_for l) (blocks l ++ r) ≡ l
view_blocks [] r h = refl
view_blocks (k ∷ l) r h =
    let few = h k (here refl) in
    let e = append_assoc (block k) (blocks l) r in
    let one : take (length k.apdu) ((block k ++ blocks l) ++ r) ≡ k.apdu = ap (take (length k.apdu)) e ∙ block_apdu k few (blocks l ++ r) in
    let rest : drop answer_octets ((block k ++ blocks l) ++ r) ≡ blocks l ++ r = ap (drop answer_octets) e ∙ block_rest k few (blocks l ++ r) in
    let more : answers_in (places_for l) (drop answer_octets ((block k ++ blocks l) ++ r)) ≡ l = ap (answers_in (places_for l)) rest ∙ view_blocks l r (λ q m. h q (there m)) in
    λ t. record { id = k.id; apdu = one t } ∷ more t

-- the places below the count of a list that was put down
pub packed_places : (l : List KeptAnswer) → kept_places (pack_kept l) ≡ places_for l
unfolding pack_kept
packed_places l = take_to (length l) (places_for l) (replicate (answers - length l) no_answer) (places_length l)

pub view_packed : (l : List KeptAnswer) → Short l → view_kept (pack_kept l) (pack_store l) ≡ l
unfolding view_kept pack_store
view_packed l h = rw (packed_places l) (view_blocks l (replicate (answer_octets * (answers - length l)) 0) h)

-- ---- the test of a list that was put down

short_places : (l : List KeptAnswer) → Short l → all_short (places_for l) ≡ true
short_places [] h = refl
short_places (k ∷ l) h = rw (le-leb (length k.apdu) answer_octets (h k (here refl))) (short_places l (λ q m. h q (there m)))

clear_blocks : (l : List KeptAnswer) (r : List ℕ) → Short l → all_zero r ≡ true → clear_behind (places_for l) (blocks l ++ r) ≡ true
clear_blocks [] r h z = z
clear_blocks (k ∷ l) r h z =
    let few = h k (here refl) in
    let e = append_assoc (block k) (blocks l) r in
    let zeros : List ℕ = replicate (answer_octets - length k.apdu) 0 in
    let first : drop (length k.apdu) (take answer_octets ((block k ++ blocks l) ++ r)) ≡ zeros =
    ap (λ (x : List ℕ). drop (length k.apdu) (take answer_octets x)) e ∙ ap (drop (length k.apdu)) (block_first k few (blocks l ++ r)) ∙ drop-append_seam k.apdu zeros in
    let rest : drop answer_octets ((block k ++ blocks l) ++ r) ≡ blocks l ++ r = ap (drop answer_octets) e ∙ block_rest k few (blocks l ++ r) in
    and_true {a = all_zero (drop (length k.apdu) (take answer_octets ((block k ++ blocks l) ++ r)))} {b = clear_behind (places_for l) (drop answer_octets ((block k ++ blocks l) ++ r))}
    (ap all_zero first ∙ zero_replicate (answer_octets - length k.apdu))
    (ap (clear_behind (places_for l)) rest ∙ clear_blocks l r (λ q m. h q (there m)) z)

clear_store : (l : List KeptAnswer) → Short l → clear_behind (places_for l) (pack_store l) ≡ true
unfolding pack_store
clear_store l h = clear_blocks l (replicate (answer_octets * (answers - length l)) 0) h (zero_replicate (answer_octets * (answers - length l)))

free_places : (n : ℕ) → list_all is_free (replicate n no_answer) ≡ true
free_places zero = refl
free_places (suc n) = free_places n

packed_behind : (l : List KeptAnswer) → drop (pack_kept l).count (pack_kept l).places ≡ replicate (answers - length l) no_answer
unfolding pack_kept
packed_behind l = drop_to (length l) (places_for l) (replicate (answers - length l) no_answer) (places_length l)

pub packed_count : (l : List KeptAnswer) → (pack_kept l).count ≡ length l
unfolding pack_kept
packed_count l = refl

packed_test : (peers : List Record) (l : List KeptAnswer) → SoundKept peers l → sound_kept peers (pack_kept l) (pack_store l) ≡ true
unfolding sound_kept
packed_test peers l h =
    rw (packed_behind l, packed_places l, packed_count l, eq-eqb _ _ (store_length l h.short h.few), le-leb _ _ h.few, places_ids l, h.once, none_live peers (answer_ids l) h.apart, short_places l h.short, free_places)
    (clear_store l h.short)

-- ---- sound kept answers, as the state and the store hold them

-- that they are packed is said beside what the test asks
pub record SoundStore (peers : List Record) (k : Kept) (store : List ℕ) : Type 0 where
  pub sound : SoundKept peers (view_kept k store)
  pub packed : k ≡ pack_kept (view_kept k store)
  pub filled : store ≡ pack_store (view_kept k store)

pub store_test : {peers : List Record} {k : Kept} {store : List ℕ} → SoundStore peers k store → sound_kept peers k store ≡ true
store_test {peers} {k} {store} h =
    (λ t. sound_kept peers (h.packed t) (h.filled t)) ∙ packed_test peers (view_kept k store) h.sound

-- whatever keeps the list of the answers sound keeps them sound where they stand
pub packed_store : {peers : List Record} (l : List KeptAnswer) → SoundKept peers l → SoundStore peers (pack_kept l) (pack_store l)
packed_store {peers} l h =
    let back = view_packed l h.short in
    record { sound = subst (SoundKept peers) (sym back) h; packed = ap pack_kept (sym back); filled = ap pack_store (sym back) }

-- the answers stay where they stand, and the peer records change
pub beside_store : {peers more : List Record} {k : Kept} {store : List ℕ} → SoundStore peers k store → SoundKept more (view_kept k store) → SoundStore more k store
beside_store h g = record { sound = g; packed = h.packed; filled = h.filled }
