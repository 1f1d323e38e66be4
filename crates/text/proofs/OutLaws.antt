-- Text put out: one text behind the other, and what a buffer keeps of it.
use Rattle.std.specs.Prelude.{ℕ, zero, suc, ◌∷◌, min, ◌+◌, ◌-◌, ◌/◌, ◌%◌, ◌≤◌, ◌<◌, ltb, ◌≡◌, List, [], ◌++◌, length, take, drop, None, Some}
use Rattle.std.proofs.Common.{subst, ap, ◌∙◌, arith}
use Rattle.std.proofs.lemmas.List.Edits.{sets-eq}
use mathlib.Core.List.{append_assoc}
use lib.Seq.{take-append-le, take_all, length-take-le}
use lib.ListN.{get_or, length-take, length-append}
use Rattle.std.specs.Io.KnownBytes.{Appends}
use Rattle.std.specs.declared.option.Option.{Option}
use Rattle.base.proofs.Tests.{cond_elim}
use Rattle.io.specs.Digits.{hex_digit_ascii}
use Rattle.text.specs.Text.{Said, each, decimal_within, decimal_digits, signed_digits}
use Rattle.text.proofs.Laws.{sets_cut, each_more}
use Rattle.text.specs.Out.{Put, text_of, Adds}

appends_appends : (a b c : Option (List ℕ)) (s t : List ℕ) → Appends a b s → Appends b c t → Appends a c (s ++ t)
appends_appends None b c s t x y = tt
appends_appends (Some a) None c s t x y = absurd x
appends_appends (Some a) (Some b) None s t x y = absurd y
appends_appends (Some a) (Some b) (Some c) s t x y = y ∙ ap (λ (u : List ℕ). u ++ t) x ∙ append_assoc a s t

pub adds_adds : (p q r : Put) (s t : List ℕ) → Adds p s q → Adds q t r → Adds p (s ++ t) r
adds_adds p q r s t x y h =
    let b = y h in let a = x b.0 in
    (a.0, appends_appends (text_of p) (text_of q) (text_of r) s t a.1 b.1)

-- one turn of a loop over s
pub added_next : (f : ℕ → List ℕ) (p q r : Put) (s : List ℕ) (i : ℕ) → i < length s → Adds p (each f (take i s)) q → Adds q (f (get_or s i 0)) r → Adds p (each f (take (i + 1) s)) r
added_next f p q r s i h x y = subst (λ (u : List ℕ). Adds p u r) (each_more f s i h) (adds_adds p q r (each f (take i s)) (f (get_or s i 0)) x y)

-- ---- what a buffer keeps

take_front : (a s d : List ℕ) → take (length a + length s) ((a ++ s) ++ d) ≡ a ++ s
take_front a s d = take-append-le (length a + length s) (a ++ s) d (omega (arith, length-append a s)) ∙ take_all (length a + length s) (a ++ s) (omega (arith, length-append a s))

-- s fits behind what is kept
pub take_said : {l : List ℕ} {at : ℕ} {s p : List ℕ} {r : ℕ} → at + length s ≤ length l → Said l at s p r → take r p ≡ take at l ++ s
take_said {l} {at} {s} {p} {r} h x =
    let n : length (take at l) ≡ at = length-take-le at l (omega arith) in
    let q : r ≡ length (take at l) + length s = omega (arith, x.behind) in
    ap (λ (k : ℕ). take k p) q ∙ ap (take (length (take at l) + length s)) (x.stored ∙ sets-eq s l at h) ∙ take_front (take at l) s (drop (at + length s) l)

pub said_front : {l s p : List ℕ} {r : ℕ} → Said l 0 s p r → take r p ≡ take (length l) s
said_front {l} {s} {p} {r} x =
    let n : length (take (length l) s) ≡ min (length l) (length s) = length-take (length l) s in
    let m : 0 + length (take (length l) s) ≤ length l = omega arith in
    let y : Said l 0 (take (length l) s) p r = record { stored = x.stored ∙ sets_cut l 0 s (length l) (omega arith); behind = omega (arith, x.behind) } in
    take_said m y

-- a line holds a text that is no longer than it
pub said_whole : {l s p : List ℕ} {r : ℕ} → length s ≤ length l → Said l 0 s p r → take r p ≡ s
said_whole {l} {s} {p} {r} h x = said_front x ∙ take_all (length l) s h

-- ---- lengths of texts

decimal_within_long : (k n : ℕ) → length (decimal_within k n) ≤ k
unfolding decimal_within
decimal_within_long zero n = omega arith
decimal_within_long (suc k) n =
    cond_elim (λ (u : List ℕ). length (u ++ (hex_digit_ascii (n % 10) ∷ [])) ≤ suc k) (ltb n 10) [] (decimal_within k (n / 10)) (λ _. omega arith)
    (λ _. omega (arith, length-append (decimal_within k (n / 10)) (hex_digit_ascii (n % 10) ∷ []), decimal_within_long k (n / 10)))

pub decimal_long : (n : ℕ) → length (decimal_digits n) ≤ 20
decimal_long n = decimal_within_long 20 n

pub signed_long : (bits : ℕ) → length (signed_digits bits) ≤ 21
signed_long bits =
    cond_elim (λ (u : List ℕ). length u ≤ 21) (ltb bits 0x80000000) (decimal_digits bits) (45 ∷ decimal_digits (0x100000000 - bits)) (λ _. omega (arith, decimal_long bits))
    (λ _. omega (arith, decimal_long (0x100000000 - bits)))
