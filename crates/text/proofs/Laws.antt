-- Text put into a line: one text behind the other, and the texts of octets one after the other.
use Prim.Native.Nat.{ℕ, zero, suc, min, ◌+◌, ◌-◌, ◌*◌, ◌/◌, ◌%◌, ◌^◌, ◌≤◌, ◌<◌}
use mathlib.Core.Path.{◌≡◌, refl, sym, subst, ap, ◌∙◌}
use mathlib.Core.Logic.{⊎_elim}
use mathlib.Core.List.{List, [], ◌∷◌, ◌++◌, append_assoc, append-nil}
use native.Mathlib.Numerals.{add-one}
use native.Mathlib.Omega.{arith}
use native.Mathlib.Nat.{one-le-pow, pow-suc, pow-le-pow_right}
use borrow.Author.Tests.{eq-eqb, ne_eqb, lt-ltb, le-ltb}
use Rattle.base.proofs.Tests.{cond_true, cond_false}
use lib.ListN.{length, get_or, take, drop, set, length-set, length-append, drop_of_length-le}
use lib.Seq.{sets, sets-eq, length-sets, length-take-le, set_out, take_all, take-suc, drop-cons, drop-drop}
use borrow.Rule.Slice.PartMut.{put_mid}
use Rattle.base.proofs.Numbers.{less_or_not}
use Rattle.io.specs.Digits.{hex_digit_ascii, last_digits, IsDigitCount}
use Rattle.text.specs.Text.{Said, Worded, item_from, item_of, each, hex_octet, hex_octets, eight_digits, decimal_within, decimal_digits}

-- ---- stores

sets_append : (o : List ℕ) (at : ℕ) (e f : List ℕ) → sets o at (e ++ f) ≡ sets (sets o at e) (at + length e) f
sets_append o at [] f = ap (λ (n : ℕ). sets o n f) (omega arith)
sets_append o at (b ∷ e) f =
    let q : suc at + length e ≡ at + suc (length e) = omega arith in
    sets_append (set o at b) (suc at) e f ∙ ap (λ (n : ℕ). sets (sets (set o at b) (suc at) e) n f) q

-- beyond the end nothing is stored
pub sets_beyond : (o : List ℕ) (at : ℕ) (e : List ℕ) → length o ≤ at → sets o at e ≡ o
sets_beyond o at [] h = refl
sets_beyond o at (b ∷ e) h =
    let q : set o at b ≡ o = set_out o at b h in
    rw q (sets_beyond o (suc at) e (omega arith))

-- what does not fit is left out
pub sets_cut : (l : List ℕ) (at : ℕ) (s : List ℕ) (n : ℕ) → length l ≤ at + n → sets l at s ≡ sets l at (take n s)
sets_cut l at [] n h = ap (sets l at) (sym (take_all n [] (omega arith)))
sets_cut l at (b ∷ s) zero h = sets_beyond l at (b ∷ s) (omega arith)
sets_cut l at (b ∷ s) (suc n) h = sets_cut (set l at b) (suc at) s n (omega (arith, length-set l at b))

-- ---- one text behind the other

pub said_said : {l : List ℕ} {at : ℕ} {s p : List ℕ} {r : ℕ} {t q : List ℕ} {k : ℕ} → Said l at s p r → Said p r t q k → Said l at (s ++ t) q k
said_said {l} {at} {s} {p} {r} {t} {q} {k} x y = record {
  stored = y.stored ∙ ap (λ (o : List ℕ). sets o r t) x.stored ∙ moved ∙ sym (sets_append l at s t);
  behind = omega (arith, x.behind, y.behind, length-append s t, ap length x.stored, length-sets l at s);
}
  where
    moved : sets (sets l at s) r t ≡ sets (sets l at s) (at + length s) t
    moved = ⊎_elim
        (λ h. sets_beyond (sets l at s) r t (omega (arith, x.behind, length-sets l at s)) ∙ sym (sets_beyond (sets l at s) (at + length s) t (omega (arith, length-sets l at s))))
        (λ h. ap (λ (n : ℕ). sets (sets l at s) n t) (omega (arith, x.behind)))
        (less_or_not (length l) (at + length s))

-- what fits of s is copied behind the start
pub said_copied : (l s : List ℕ) (at start n : ℕ) (v : List ℕ) → start ≡ min at (length l) → n ≡ min (length s) (length l - start) → v ≡ take n s → Said l at s (put_mid start (start + n - start) l v) (at + n)
said_copied l s at start n v e f w = record { stored = ⊎_elim over within (less_or_not (length l) at); behind = omega (arith, e, f) }
  where
    k : start + n - start ≡ n
    k = omega arith

    long : length (take n s) ≡ n
    long = length-take-le n s (omega (arith, e, f))

    stays : put_mid start (start + n - start) l v ≡ take start l ++ (take n s ++ drop (start + n) l)
    stays = (λ i. put_mid start (k i) l (w i)) ∙ ap (λ (u : List ℕ). take start l ++ (take n s ++ u)) (drop-drop n start l)

    within : at ≤ length l → put_mid start (start + n - start) l v ≡ sets l at s
    within h =
        let q : start ≡ at = omega (arith, e) in
        let cut : sets l at s ≡ sets l at (take n s) = ⊎_elim (λ (g : n < length s). sets_cut l at s n (omega (arith, e, f))) (λ (g : length s ≤ n). ap (sets l at) (sym (take_all n s g))) (less_or_not n (length s)) in
        stays ∙ (λ i. take (q i) l ++ (take n s ++ drop (q i + sym long i) l)) ∙ sym (cut ∙ sets-eq (take n s) l at (omega (arith, long, e, f)) ∙ append_assoc (take at l) (take n s) (drop (at + length (take n s)) l))

    over : length l < at → put_mid start (start + n - start) l v ≡ sets l at s
    over h =
        let z : n ≡ 0 = omega (arith, e, f) in
        let q : start ≡ length l = omega (arith, e) in
        stays ∙ (λ i. take (q i) l ++ (take (z i) s ++ drop (q i + z i) l)) ∙ ap (λ (u : List ℕ). take (length l) l ++ u) (drop_of_length-le l (omega arith)) ∙ append-nil (take (length l) l) ∙ take_all (length l) l (omega arith) ∙ sym (sets_beyond l at s (omega arith))

-- the same text, written otherwise
pub said_as : {l : List ℕ} {at : ℕ} {s t p : List ℕ} {r : ℕ} → s ≡ t → Said l at s p r → Said l at t p r
said_as {l} {at} {s} {t} {p} {r} e x = subst (λ (u : List ℕ). Said l at u p r) e x

-- ---- octet by octet

pub each_append : (f : ℕ → List ℕ) (s t : List ℕ) → each f (s ++ t) ≡ each f s ++ each f t
each_append f [] t = refl
each_append f (b ∷ s) t = ap (λ (u : List ℕ). f b ++ u) (each_append f s t) ∙ sym (append_assoc (f b) (each f s) (each f t))

each_one : (f : ℕ → List ℕ) (b : ℕ) → each f (b ∷ []) ≡ f b
each_one f b = append-nil (f b)

-- the text of one octet more
pub each_more : (f : ℕ → List ℕ) (s : List ℕ) (i : ℕ) → i < length s → each f (take i s) ++ f (get_or s i 0) ≡ each f (take (i + 1) s)
each_more f s i h = ap (λ (u : List ℕ). each f (take i s) ++ u) (sym (each_one f (get_or s i 0))) ∙ sym (each_append f (take i s) (get_or s i 0 ∷ [])) ∙ ap (each f) (sym (take-suc s i 0 h)) ∙ ap (λ (n : ℕ). each f (take n s)) (sym (add-one i))

-- one turn of a loop over s
pub said_next : (f : ℕ → List ℕ) {l : List ℕ} {at : ℕ} (s : List ℕ) (i : ℕ) {p : List ℕ} {r : ℕ} {q : List ℕ} {k : ℕ} → i < length s → Said l at (each f (take i s)) p r → Said p r (f (get_or s i 0)) q k → Said l at (each f (take (i + 1) s)) q k
said_next f {l} {at} s i h x y = said_as (each_more f s i h) (said_said x y)

-- ---- digits

-- the last octet of a number has its last two digits
octet_digits : (k x : ℕ) → last_digits 16 k (x / 256) ++ hex_octet (x % 256) ≡ last_digits 16 (suc (suc k)) x
octet_digits k x =
    let a : x / 256 ≡ x / 16 / 16 = omega arith in
    let b : x % 256 / 16 ≡ x / 16 % 16 = omega arith in
    let c : x % 256 % 16 ≡ x % 16 = omega arith in
    (λ i. last_digits 16 k (a i) ++ hex_digit_ascii (b i) ∷ hex_digit_ascii (c i) ∷ []) ∙ sym (append_assoc (last_digits 16 k (x / 16 / 16)) (hex_digit_ascii (x / 16 % 16) ∷ []) (hex_digit_ascii (x % 16) ∷ []))

-- the octets of a number of 32 bits have its digits
pub eight_digits_lem : (x : ℕ) → hex_octets (x / 16777216 % 256 ∷ x / 65536 % 256 ∷ x / 256 % 256 ∷ x % 256 ∷ []) ≡ eight_digits x
eight_digits_lem x =
    let a : x / 16777216 % 256 ≡ x / 256 / 256 / 256 % 256 = omega arith in
    let b : x / 65536 % 256 ≡ x / 256 / 256 % 256 = omega arith in
    (λ i. hex_octet (a i) ++ hex_octet (b i) ++ hex_octet (x / 256 % 256) ++ hex_octet (x % 256))
    ∙ ap (λ (u : List ℕ). ((u ++ hex_octet (x / 256 / 256 % 256)) ++ hex_octet (x / 256 % 256)) ++ hex_octet (x % 256)) (octet_digits 0 (x / 256 / 256 / 256))
    ∙ ap (λ (u : List ℕ). (u ++ hex_octet (x / 256 % 256)) ++ hex_octet (x % 256)) (octet_digits 2 (x / 256 / 256))
    ∙ ap (λ (u : List ℕ). u ++ hex_octet (x % 256)) (octet_digits 4 (x / 256))
    ∙ octet_digits 6 x

-- the fewest digits that hold a number are those with none in front that is not needed
fewest_decimal : (m n k : ℕ) → IsDigitCount 10 1 n k → k ≤ m → last_digits 10 k n ≡ decimal_within m n
unfolding decimal_within
fewest_decimal m n zero h q = absurd (omega (arith, h.0))
fewest_decimal zero n (suc k) h q = absurd (omega arith)
fewest_decimal (suc m) n (suc zero) h q = ap (λ (u : List ℕ). u ++ (hex_digit_ascii (n % 10) ∷ [])) (cond_true [] (decimal_within m (n / 10)) (lt-ltb n 10 h.1))
fewest_decimal (suc m) n (suc (suc k)) h q =
    let e : suc (suc k) - 1 ≡ suc k = omega arith in
    let e' : k ≡ suc k - 1 = omega arith in
    let least : 10 ^ k * 10 ≤ n = subst (λ (p : ℕ). p ≤ n) (ap (λ (j : ℕ). 10 ^ j) e ∙ pow-suc 10 k) (h.2 (omega arith)) in
    let most : n < 10 ^ k * 10 * 10 = subst (λ (p : ℕ). n < p) (pow-suc 10 (suc k) ∙ ap (λ (p : ℕ). p * 10) (pow-suc 10 k)) h.1 in
    let one : 1 ≤ 10 ^ k = one-le-pow k 10 (omega arith) in
    ap (λ (u : List ℕ). u ++ (hex_digit_ascii (n % 10) ∷ []))
    (fewest_decimal m (n / 10) (suc k) (omega arith, subst (λ (p : ℕ). n / 10 < p) (sym (pow-suc 10 k)) (omega arith), λ _. subst (λ (j : ℕ). 10 ^ j ≤ n / 10) e' (omega arith)) (omega arith)
    ∙ cond_false [] (decimal_within m (n / 10)) (le-ltb n 10 (omega arith)))

-- twenty digits hold a number of 64 bits
pub decimal_digits_lem : (n k : ℕ) → n < 0x10000000000000000 → IsDigitCount 10 1 n k → last_digits 10 k n ≡ decimal_digits n
decimal_digits_lem n k h fewest = fewest_decimal 20 n k fewest (⊎_elim over (λ q. q) (less_or_not 20 k))
  where
    over : 20 < k → k ≤ 20
    over q =
        let least : 10 ^ (k - 1) ≤ n = fewest.2 (omega arith) in
        let most : 100000000000000000000 ≤ 10 ^ (k - 1) = pow-le-pow_right {n = 10} (omega arith) {i = 20} (omega arith) in
        absurd (omega arith)

-- ---- an item of a list

-- what a loop over the list keeps: what was put, and with it what is left of the list makes the item
pub record Picking (l : List ℕ) (at n : ℕ) (s : List ℕ) (i bars : ℕ) (p : List ℕ) (k : ℕ) : Type 0 where
  pub words : List ℕ
  pub said : Said l at words p k
  pub few : bars ≤ i
  pub left : words ++ item_from n bars (drop i s) ≡ item_of n s

-- the character is a bar
pub picking_bar : {l : List ℕ} {at n : ℕ} (s : List ℕ) (i : ℕ) {bars : ℕ} {p : List ℕ} {k : ℕ} → i < length s → Picking l at n s i bars p k → get_or s i 0 ≡ 124 → Picking l at n s (i + 1) (bars + 1) p k
unfolding item_from
picking_bar {l} {at} {n} s i {bars} {p} {k} h x e = record {
  words = x.words;
  said = x.said;
  few = omega (arith, x.few);
  left = ap (λ (u : List ℕ). x.words ++ u) (ap (λ (m : ℕ). item_from n (bars + 1) (drop m s)) (add-one i) ∙ cond_true _ _ (eq-eqb _ _ e) ∙ ap (item_from n bars) (sym (drop-cons s i 0 h))) ∙ x.left;
}

-- it is another item's
pub picking_other : {l : List ℕ} {at n : ℕ} (s : List ℕ) (i : ℕ) {bars : ℕ} {p : List ℕ} {k : ℕ} → i < length s → Picking l at n s i bars p k → (get_or s i 0 ≡ 124 → ⊥) → (bars ≡ n → ⊥) → Picking l at n s (i + 1) bars p k
unfolding item_from
picking_other {l} {at} {n} s i {bars} {p} {k} h x e f = record {
  words = x.words;
  said = x.said;
  few = omega (arith, x.few);
  left = ap (λ (u : List ℕ). x.words ++ u) (ap (λ (m : ℕ). item_from n bars (drop m s)) (add-one i) ∙ cond_false _ _ (ne_eqb _ _ f) ∙ cond_false _ _ (ne_eqb _ _ e) ∙ ap (item_from n bars) (sym (drop-cons s i 0 h))) ∙ x.left;
}

-- it is put
pub picking_next : {l : List ℕ} {at n : ℕ} (s : List ℕ) (i : ℕ) {bars : ℕ} {p : List ℕ} {k : ℕ} {q : List ℕ} {r : ℕ} → i < length s → Picking l at n s i bars p k → (get_or s i 0 ≡ 124 → ⊥) → bars ≡ n → Said p k (get_or s i 0 ∷ []) q r → Picking l at n s (i + 1) bars q r
unfolding item_from
picking_next {l} {at} {n} s i {bars} {p} {k} {q} {r} h x e f y = record {
  words = x.words ++ get_or s i 0 ∷ [];
  said = said_said x.said y;
  few = omega (arith, x.few);
  left = append_assoc x.words (get_or s i 0 ∷ []) (item_from n bars (drop (i + 1) s))
      ∙ ap (λ (u : List ℕ). x.words ++ u) (ap (λ (m : ℕ). get_or s i 0 ∷ item_from n bars (drop m s)) (add-one i) ∙ cond_true _ _ (eq-eqb _ _ f) ∙ cond_false _ _ (ne_eqb _ _ e) ∙ ap (item_from n bars) (sym (drop-cons s i 0 h))) ∙ x.left;
}

pub picking_end : {l : List ℕ} {at n : ℕ} (s : List ℕ) (i : ℕ) {bars : ℕ} {p : List ℕ} {k : ℕ} → length s ≤ i → Picking l at n s i bars p k → Said l at (item_of n s) p k
unfolding item_from
picking_end {l} {at} {n} s i {bars} {p} {k} h x =
    said_as (sym (append-nil x.words) ∙ ap (λ (u : List ℕ). x.words ++ item_from n bars u) (sym (drop_of_length-le s h)) ∙ x.left) x.said

-- ---- words of the library's own choice

pub worded : {l : List ℕ} {at : ℕ} {s p : List ℕ} {r : ℕ} → Said l at s p r → Worded l at p r
worded {l} {at} {s} {p} {r} x = record { words = s; said = x }

pub worded_said : {l : List ℕ} {at : ℕ} {p : List ℕ} {r : ℕ} {t q : List ℕ} {k : ℕ} → Worded l at p r → Said p r t q k → Worded l at q k
worded_said {l} {at} {p} {r} {t} {q} {k} x y = worded (said_said x.said y)

pub worded_worded : {l : List ℕ} {at : ℕ} {p : List ℕ} {r : ℕ} {q : List ℕ} {k : ℕ} → Worded l at p r → Worded p r q k → Worded l at q k
worded_worded {l} {at} {p} {r} {q} {k} x y = worded_said x y.said
