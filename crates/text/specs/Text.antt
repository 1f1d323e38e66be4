-- Words, numbers and octets as text, and what a function that puts text into a line promises.
use Rattle.std.specs.Prelude.{Bool, true, false, ℕ, zero, suc, ◌+◌, ◌-◌, ◌/◌, ◌%◌, min, ◌≡◌, cond, if◌then◌else◌, ◌==◌, List, [], ◌∷◌, ◌++◌, length, ltb}
use Rattle.std.proofs.lemmas.List.Edits.{sets}
use Rattle.io.specs.Digits.{hex_digit_ascii, last_digits}

-- s was put into a line from a place on, as much of it as fits: `after` is the line then, and r the place behind.
-- `sets` stores one octet after the other, and a store beyond the end changes nothing.
pub record Said (line : List ℕ) (at : ℕ) (s : List ℕ) (after : List ℕ) (r : ℕ) : Type 0 where
  pub stored : after ≡ sets line at s
  pub behind : r ≡ at + min (length s) (length line - at)

-- words of the library's own choice were put, and nothing else was changed
pub record Worded (line : List ℕ) (at : ℕ) (after : List ℕ) (r : ℕ) : Type 0 where
  pub words : List ℕ
  pub said : Said line at words after r

-- the texts of octets, one behind the other
abbrev pub each : (ℕ → List ℕ) → List ℕ → List ℕ
each f [] = []
each f (b ∷ s) = f b ++ each f s

-- two digits in lower case
abbrev pub hex_octet : ℕ → List ℕ
hex_octet b = hex_digit_ascii (b / 16) ∷ hex_digit_ascii (b % 16) ∷ []

-- the same, behind a space where octets are to stand apart
abbrev pub octet_shown : Bool → ℕ → List ℕ
octet_shown true b = 32 ∷ hex_octet b
octet_shown false b = hex_octet b

abbrev pub hex_octets : List ℕ → List ℕ
hex_octets s = each hex_octet s

-- a space before each octet
abbrev pub spaced_octets : List ℕ → List ℕ
spaced_octets s = each (λ b. 32 ∷ hex_octet b) s

-- a number of 32 bits, with zeros in front
abbrev pub eight_digits : ℕ → List ℕ
eight_digits x = last_digits 16 8 x

-- at most k decimal digits, and none in front that is not needed
unfoldable pub decimal_within : ℕ → ℕ → List ℕ
decimal_within zero n = []
decimal_within (suc k) n = cond (ltb n 10) [] (decimal_within k (n / 10)) ++ (hex_digit_ascii (n % 10) ∷ [])

-- a number of 64 bits, which 20 digits hold
abbrev pub decimal_digits : ℕ → List ℕ
decimal_digits n = decimal_within 20 n

-- the number with these 32 bits in two's complement, a minus sign before a negative one
abbrev pub signed_digits : ℕ → List ℕ
signed_digits bits = cond (ltb bits 0x80000000) (decimal_digits bits) (45 ∷ decimal_digits (0x100000000 - bits))

-- ---- the items of a list, a bar between each and the next

-- what of the text is in item n, with so many bars before it
unfoldable pub item_from : ℕ → ℕ → List ℕ → List ℕ
item_from n bars [] = []
item_from n bars (c ∷ s) = (if c == 124 then item_from n (bars + 1) s else (if bars == n then c ∷ item_from n bars s else item_from n bars s))

-- item n, counted from 0; none where there are not so many
abbrev pub item_of : ℕ → List ℕ → List ℕ
item_of n s = item_from n 0 s
