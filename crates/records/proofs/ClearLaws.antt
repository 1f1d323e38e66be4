-- The octets that no answer uses, a place at a time.
use Prim.Native.Nat.{ℕ, ◌+◌, ◌-◌, ◌*◌, ◌≤◌, ◌<◌}
use native.Mathlib.Numerals.{add-one}
use native.Mathlib.Omega.{arith}
use mathlib.Core.Path.{◌≡◌, refl, sym, ap, ◌∙◌}
use mathlib.Core.Bool.{Bool, true, false, ◌&&◌, and_assoc}
use mathlib.Core.List.{List, [], ◌∷◌, ◌++◌}
use borrow.Author.Tests.{le-leb}
use lib.Dec.{eqb}
use lib.ListN.{length, take, drop, get_or, take-append-drop}
use lib.Seq.{drop-cons, drop-drop}
use Rattle.base.proofs.PartLaws.{drop_take}
use Rattle.records.specs.declared.KeptPlace.{KeptPlace}
use Rattle.records.specs.Limits.{answer_octets}
use Rattle.records.specs.Numbers.{all_zero}
use Rattle.records.specs.Kept.{no_answer, all_short, clear_behind}

-- lengths are short, and the octets that they do not use are 0
abbrev pub unused_clear : List KeptPlace → List ℕ → Bool
unused_clear places store = all_short places && clear_behind places store

zero_append : (a b : List ℕ) → all_zero (a ++ b) ≡ (all_zero a && all_zero b)
zero_append [] b = refl
zero_append (x ∷ a) b = ap (λ (t : Bool). eqb x 0 && t) (zero_append a b) ∙ sym (and_assoc (eqb x 0) (all_zero a) (all_zero b))

-- the octets of place i are the first of what is left
zero_left : (store : List ℕ) (i : ℕ) → all_zero (drop (answer_octets * i) store) ≡ (all_zero (take answer_octets (drop (answer_octets * i) store)) && all_zero (drop (answer_octets * (i + 1)) store))
zero_left store i =
    let next : answer_octets * i + answer_octets ≡ answer_octets * (i + 1) = omega arith in
    ap all_zero (sym (take-append-drop answer_octets (drop (answer_octets * i) store)))
    ∙ zero_append (take answer_octets (drop (answer_octets * i) store)) (drop answer_octets (drop (answer_octets * i) store))
    ∙ ap (λ (l : List ℕ). all_zero (take answer_octets (drop (answer_octets * i) store)) && all_zero l) (drop-drop answer_octets (answer_octets * i) store ∙ ap (λ (k : ℕ). drop k store) next)

-- what are_zero says of place i
pub zero_block : (store : List ℕ) (i : ℕ) (b : Bool) → b ≡ all_zero (take (i * 512 + 512 - i * 512) (drop (i * 512) store)) → all_zero (drop (answer_octets * i) store) ≡ (b && all_zero (drop (answer_octets * (i + 1)) store))
zero_block store i b e =
    let w : i * 512 + 512 - i * 512 ≡ answer_octets = omega arith in
    let at : i * 512 ≡ answer_octets * i = omega arith in
    zero_left store i ∙ ap (λ (t : Bool). t && all_zero (drop (answer_octets * (i + 1)) store)) (sym (rw (w, at) at e))

swap : (s b c : Bool) → (s && (b && c)) ≡ (b && (s && c))
swap true b c = refl
swap false true c = refl
swap false false c = refl

-- what are_zero says of the octets behind the length in place i
pub clear_block : (places : List KeptPlace) (store : List ℕ) (i : ℕ) → i < length places → (get_or places i no_answer).length ≤ answer_octets → (b : Bool)
    → b ≡ all_zero (take (i * 512 + 512 - (i * 512 + (get_or places i no_answer).length)) (drop (i * 512 + (get_or places i no_answer).length) store))
    → unused_clear (drop i places) (drop (answer_octets * i) store) ≡ (b && unused_clear (drop (i + 1) places) (drop (answer_octets * (i + 1)) store))
clear_block places store i q h b e =
    let used : ℕ = (get_or places i no_answer).length in
    let left : drop i places ≡ get_or places i no_answer ∷ drop (i + 1) places = rw add-one (drop-cons places i no_answer q) in
    let at : answer_octets * i + used ≡ i * 512 + used = omega arith in
    let w : answer_octets - used ≡ i * 512 + 512 - (i * 512 + used) = omega arith in
    let next : answer_octets * i + answer_octets ≡ answer_octets * (i + 1) = omega arith in
    let part : drop used (take answer_octets (drop (answer_octets * i) store)) ≡ take (i * 512 + 512 - (i * 512 + used)) (drop (i * 512 + used) store) =
    drop_take used answer_octets (drop (answer_octets * i) store)
    ∙ (λ t. take (w t) (drop-drop used (answer_octets * i) store t))
    ∙ ap (λ (k : ℕ). take (i * 512 + 512 - (i * 512 + used)) (drop k store)) at in
    let rest : drop answer_octets (drop (answer_octets * i) store) ≡ drop (answer_octets * (i + 1)) store = drop-drop answer_octets (answer_octets * i) store ∙ ap (λ (k : ℕ). drop k store) next in
    rw (left, le-leb _ _ h, part, rest, ← e) (swap (all_short (drop (i + 1) places)) b (clear_behind (drop (i + 1) places) (drop (answer_octets * (i + 1)) store)))
