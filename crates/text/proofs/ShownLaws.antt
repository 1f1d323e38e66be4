-- What is put into a line to be shown: it is text and stands at the line's front; and of octets that are shown a few at once one text stands behind the other.
use Prim.Native.Nat.{ℕ, zero, suc, ◌+◌, ◌-◌, ◌*◌, ◌/◌, ◌%◌, ◌≤◌, ◌<◌}
use mathlib.Core.Path.{◌≡◌, sym, ap, ◌∙◌}
use mathlib.Core.Bool.{Bool, true, false, cond}
use mathlib.Core.List.{List, [], ◌∷◌, ◌++◌, append_assoc}
use native.Mathlib.Omega.{arith}
use lib.Dec.{ltb}
use lib.ListN.{length, get_or, take, drop, length-append}
use lib.Seq.{sets-eq, take-append-le, take_all}
use Rattle.std.specs.Prelude.{IsUtf8, IsAscii}
use Rattle.std.proofs.lemmas.Bool.Decides.{nat_tests}
use Rattle.std.proofs.lemmas.Str.{IsUtf8-from_ascii}
use Rattle.std.proofs.lemmas.Str.Ascii.{IsAscii-nil, IsAscii-cons, IsAscii-push}
use Rattle.io.specs.Digits.{hex_digit_ascii}
use Rattle.base.proofs.Tests.{cond_elim}
use Rattle.text.specs.Text.{Said, each, hex_octet, octet_shown, decimal_within, decimal_digits, signed_digits}
use Rattle.text.proofs.Laws.{each_append}

-- ---- digits are text

digit_low : (d : ℕ) → d < 16 → hex_digit_ascii d < 128
digit_low d h = grind (arith, nat_tests)

octet_ascii : (b : ℕ) → b < 256 → (t : List ℕ) → IsAscii t → IsAscii (hex_octet b ++ t)
octet_ascii b h t a =
    IsAscii-cons (hex_digit_ascii (b / 16)) (hex_digit_ascii (b % 16) ∷ t) (digit_low (b / 16) (omega arith)) (IsAscii-cons (hex_digit_ascii (b % 16)) t (digit_low (b % 16) (omega arith)) a)

octets_ascii : (d : Bool) (s : List ℕ) → ((i : ℕ) → get_or s i 0 < 256) → IsAscii (each (octet_shown d) s)
octets_ascii d [] h = IsAscii-nil
octets_ascii false (b ∷ s) h = octet_ascii b (h 0) (each (octet_shown false) s) (octets_ascii false s (λ i. h (suc i)))
octets_ascii true (b ∷ s) h = IsAscii-cons 32 (hex_octet b ++ each (octet_shown true) s) (omega arith) (octet_ascii b (h 0) (each (octet_shown true) s) (octets_ascii true s (λ i. h (suc i))))

pub octets_text : (d : Bool) (s : List ℕ) → ((i : ℕ) → get_or s i 0 < 256) → IsUtf8 (each (octet_shown d) s)
octets_text d s h = IsUtf8-from_ascii (each (octet_shown d) s) (octets_ascii d s h)

decimal_ascii : (k n : ℕ) → IsAscii (decimal_within k n)
unfolding decimal_within
decimal_ascii zero n = IsAscii-nil
decimal_ascii (suc k) n =
    let before : IsAscii (cond (ltb n 10) [] (decimal_within k (n / 10))) = cond_elim (λ t. IsAscii t) (ltb n 10) [] (decimal_within k (n / 10)) (λ _. IsAscii-nil) (λ _. decimal_ascii k (n / 10)) in
    IsAscii-push (cond (ltb n 10) [] (decimal_within k (n / 10))) (hex_digit_ascii (n % 10)) before (digit_low (n % 10) (omega arith))

pub signed_text : (bits : ℕ) → IsUtf8 (signed_digits bits)
signed_text bits =
    IsUtf8-from_ascii (signed_digits bits)
    (cond_elim (λ t. IsAscii t) (ltb bits 0x80000000) (decimal_digits bits) (45 ∷ decimal_digits (0x100000000 - bits)) (λ _. decimal_ascii 20 bits) (λ _. IsAscii-cons 45 (decimal_digits (0x100000000 - bits)) (omega arith) (decimal_ascii 20 (0x100000000 - bits))))

-- ---- they stand at the front of a line that has room for them

pub front : {l : List ℕ} (s : List ℕ) {p : List ℕ} {r : ℕ} → Said l 0 s p r → length s ≤ length l → take r p ≡ s
front {l} s {p} {r} x h =
    let q : r ≡ length s = omega (arith, x.behind) in
    (λ i. take (q i) (x.stored i)) ∙ ap (take (length s)) (sets-eq s l 0 (omega arith)) ∙ take-append-le (length s) s (drop (0 + length s) l) (omega arith) ∙ take_all (length s) s (omega arith)

pub octets_length : (d : Bool) (s : List ℕ) → length (each (octet_shown d) s) ≤ 3 * length s
octets_length d [] = omega arith
octets_length false (b ∷ s) = omega (arith, octets_length false s)
octets_length true (b ∷ s) = omega (arith, octets_length true s)

decimal_length : (k n : ℕ) → length (decimal_within k n) ≤ k
unfolding decimal_within
decimal_length zero n = omega arith
decimal_length (suc k) n =
    let h : length (cond (ltb n 10) [] (decimal_within k (n / 10))) ≤ k = cond_elim (λ (t : List ℕ). length t ≤ k) (ltb n 10) [] (decimal_within k (n / 10)) (λ _. omega arith) (λ _. decimal_length k (n / 10)) in
    omega (arith, h, length-append (cond (ltb n 10) [] (decimal_within k (n / 10))) (hex_digit_ascii (n % 10) ∷ []))

pub signed_length : (bits : ℕ) → length (signed_digits bits) ≤ 21
signed_length bits =
    cond_elim (λ (t : List ℕ). length t ≤ 21) (ltb bits 0x80000000) (decimal_digits bits) (45 ∷ decimal_digits (0x100000000 - bits)) (λ _. omega (arith, decimal_length 20 bits)) (λ _. omega (arith, decimal_length 20 (0x100000000 - bits)))

-- ---- of octets that are left, the text of the next few stands behind what was written

pub each_next : (f : ℕ → List ℕ) (w few more : List ℕ) {left t : List ℕ} → left ≡ few ++ more → w ++ each f left ≡ t → (w ++ each f few) ++ each f more ≡ t
each_next f w few more {left} {t} e h = append_assoc w (each f few) (each f more) ∙ ap (λ (x : List ℕ). w ++ x) (sym (each_append f few more)) ∙ ap (λ (x : List ℕ). w ++ each f x) (sym e) ∙ h
