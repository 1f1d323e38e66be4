-- A kept answer goes last, where eight are kept in the room that the oldest makes: putting it into its place is putting it behind the list.
use Prim.Native.Nat.{ℕ, suc, ◌+◌, ◌-◌, ◌*◌, ◌≤◌}
use native.Mathlib.Omega.{arith}
use mathlib.Core.Path.{◌≡◌, refl, sym, ap, ◌∙◌}
use mathlib.Core.Bool.{Bool, true, false, cond, ◌&&◌}
use mathlib.Core.List.{List, [], ◌∷◌, ◌++◌, append_assoc}
use lib.Dec.{leb}
use lib.ListN.{length, take, drop, set, replicate, length-append, length-replicate}
use lib.Seq.{set-append_seam}
use borrow.Author.Tests.{eq-eqb, leb-true, le-leb}
use Rattle.ber.specs.Output.{placed}
use Rattle.records.specs.declared.Record.{Record}
use Rattle.records.specs.declared.KeptPlace.{KeptPlace}
use Rattle.records.specs.Limits.{answers, answer_octets}
use Rattle.records.specs.Kept.{KeptAnswer, place_for, no_answer, with_room, keeping, pack_kept, blocks, pack_store}
use Rattle.records.specs.Steps.{kept_closed, store_closed, kept_put, fits, kept_room, store_room, kept_next, store_next}
use Rattle.records.proofs.KeptLaws.{in_room, room_length, Short, SoundKept}
use Rattle.records.proofs.DropLaws.{more_of, places_append, blocks_append, kept_closed_lem, store_closed_lem}
use Rattle.records.proofs.StoreLaws.{places_for, places_length, packed_count, blocks_length, store_length, take_to, drop_to}

abbrev zeros : ℕ → List ℕ
zeros n = replicate n 0

-- ---- an answer goes last

module _ (l : List KeptAnswer) (room : suc (length l) ≤ answers) (i : ℕ) (x : List ℕ) where
  one_more_lem : answers - length l ≡ suc (answers - length (l ++ record { id = i; apdu = x } ∷ []))
  one_more_lem = omega (arith, length-append l (record { id = i; apdu = x } ∷ []))

  pub kept_put_lem : kept_put (pack_kept l) i (length x) ≡ pack_kept (l ++ record { id = i; apdu = x } ∷ [])
  unfolding pack_kept
  kept_put_lem =
      let k : KeptAnswer = record { id = i; apdu = x } in
      let m = answers - length (l ++ k ∷ []) in
      let count : length l + 1 ≡ length (l ++ k ∷ []) = omega (arith, length-append l (k ∷ [])) in
      let places : set (places_for l ++ replicate (answers - length l) no_answer) (length l) (place_for k) ≡ places_for (l ++ k ∷ []) ++ replicate m no_answer =
      ap (λ (j : ℕ). set (places_for l ++ replicate j no_answer) (length l) (place_for k)) one_more_lem
      ∙ ap (λ (j : ℕ). set (places_for l ++ replicate (suc m) no_answer) j (place_for k)) (sym (places_length l))
      ∙ set-append_seam (places_for l) no_answer (replicate m no_answer) (place_for k)
      ∙ sym (append_assoc (places_for l) (place_for k ∷ []) (replicate m no_answer))
      ∙ ap (λ (y : List KeptPlace). y ++ replicate m no_answer) (sym (places_append l (k ∷ []))) in
      λ t. record { count = count t; places = places t }

  pub store_put : Short l → length x ≤ answer_octets → placed (pack_store l) (length l * answer_octets) x ≡ pack_store (l ++ record { id = i; apdu = x } ∷ [])
  unfolding pack_store placed
  store_put short few =
      let k : KeptAnswer = record { id = i; apdu = x } in
      let n = length l * answer_octets in
      let m = answer_octets * (answers - length (l ++ k ∷ [])) in
      let pad = answer_octets - length x in
      let at : length (blocks l) ≡ n = omega (arith, blocks_length l short) in
      let sum : length x + (pad + m) ≡ answer_octets * (answers - length l) = omega (arith, one_more_lem) in
      let rest = zeros (length x) ++ (zeros pad ++ zeros m) in
      let split : zeros (answer_octets * (answers - length l)) ≡ rest =
      sym (more_of 0 (length x) (pad + m) (answer_octets * (answers - length l)) sum) ∙ ap (λ (y : List ℕ). zeros (length x) ++ y) (sym (more_of 0 pad m (pad + m) refl)) in
      let size : length (blocks l ++ rest) ≡ answer_octets * length l + answer_octets * (answers - length l) =
      ap (λ (y : List ℕ). length (blocks l ++ y)) (sym split) ∙ length-append (blocks l) (zeros (answer_octets * (answers - length l))) ∙ (λ t. blocks_length l short t + length-replicate {A = ℕ} (answer_octets * (answers - length l)) 0 t) in
      let front : take n (blocks l ++ rest) ≡ blocks l = take_to n (blocks l) rest at in
      let both : length (blocks l ++ zeros (length x)) ≡ n + length x = omega (arith, length-append (blocks l) (zeros (length x)), length-replicate {A = ℕ} (length x) 0, at) in
      let back : drop (n + length x) (blocks l ++ rest) ≡ zeros pad ++ zeros m =
      ap (drop (n + length x)) (sym (append_assoc (blocks l) (zeros (length x)) (zeros pad ++ zeros m))) ∙ drop_to (n + length x) (blocks l ++ zeros (length x)) (zeros pad ++ zeros m) both in
      let fit : leb (n + length x) (length (blocks l ++ rest)) ≡ true = le-leb (n + length x) (length (blocks l ++ rest)) (omega (arith, size, one_more_lem)) in
      rw (split, fit, front, back, blocks_append l (k ∷ [])) (simp append_assoc)

-- ---- what the code makes of kept answers that were put down

module _ {peers : List Record} {l : List KeptAnswer} (h : SoundKept peers l) where
  -- the oldest of eight makes room
  room : (kept_room (pack_kept l) ≡ pack_kept (with_room l)) × (store_room (pack_kept l) (pack_store l) ≡ pack_store (with_room l))
  unfolding pack_kept
  room = go (leb answers (length l)) refl
    where
      first : (m : List KeptAnswer) → answers ≤ length m → length m ≤ answers → Short m
          → (kept_closed (pack_kept m) 0 ≡ pack_kept (drop 1 m)) × (store_closed (pack_store m) 0 ≡ pack_store (drop 1 m))
      first [] full few short = absurd (let e : ⊥ = omega arith in e)
      first (k ∷ m) full few short = (kept_closed_lem [] k m few, store_closed_lem [] k m few short)

      go : (b : Bool) → leb answers (length l) ≡ b
          → (cond b (kept_closed (pack_kept l) 0) (pack_kept l) ≡ pack_kept (cond b (drop 1 l) l))
          × (cond b (store_closed (pack_store l) 0) (pack_store l) ≡ pack_store (cond b (drop 1 l) l))
      go true e = first l (leb-true answers (length l) e) h.few h.short
      go false e = (refl, refl)

  can_keep : (x : List ℕ) → fits (pack_kept l) (pack_store l) x ≡ leb (length x) answer_octets
  can_keep x = rw (eq-eqb _ _ (store_length l h.short h.few), packed_count l, le-leb _ _ h.few) (go (leb (length x) answer_octets))
    where
      go : (b : Bool) → (b && true) ≡ b
      go true = refl
      go false = refl

  pub kept_next_lem : (i : ℕ) (x : List ℕ) → kept_next (pack_kept l) (pack_store l) i x ≡ pack_kept (keeping l (record { id = i; apdu = x }))
  unfolding kept_next keeping
  kept_next_lem i x =
      rw (can_keep x, room.0, kept_put_lem (with_room l) (room_length l h.few) i x) (go (leb (length x) answer_octets))
    where
      go : (b : Bool) → cond b (pack_kept (with_room l ++ record { id = i; apdu = x } ∷ [])) (pack_kept l) ≡ pack_kept (cond b (with_room l ++ record { id = i; apdu = x } ∷ []) l)
      go true = refl
      go false = refl

  pub store_next_lem : (i : ℕ) (x : List ℕ) → store_next (pack_kept l) (pack_store l) x ≡ pack_store (keeping l (record { id = i; apdu = x }))
  unfolding store_next keeping
  store_next_lem i x = rw (can_keep x, room.0, room.1, packed_count (with_room l)) (go (leb (length x) answer_octets) refl)
    where
      go : (b : Bool) → leb (length x) answer_octets ≡ b
          → cond b (placed (pack_store (with_room l)) (length (with_room l) * answer_octets) x) (pack_store l) ≡ pack_store (cond b (with_room l ++ record { id = i; apdu = x } ∷ []) l)
      go true e = store_put (with_room l) (room_length l h.few) i x (λ k m. h.short k (in_room l m)) (leb-true (length x) answer_octets e)
      go false e = refl
