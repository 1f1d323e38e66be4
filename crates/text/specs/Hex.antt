-- What hexadecimal text says: the octets, and what is wrong with it.
use Rattle.std.specs.Prelude.{ℕ, suc, ◌+◌, ◌-◌, ◌*◌, ◌≡◌, Bool, if◌then◌else◌, nat_le, nat_lt, ◌&&◌, ◌||◌, ◌==◌, List, [], ◌∷◌, ◌++◌, length, drop, Option, Some, None, Result, Ok, Err, ok_or, option_map}
use Rattle.text.specs.declared.hex.HexFault.{HexFault}
use Rattle.text.specs.declared.hex.HexFault.TheVariants.{NoDigit, Half, Long}
use Rattle.text.specs.declared.hex.Phase.{Phase}
use Rattle.text.specs.declared.hex.Phase.TheVariants.{Between, Comment, First}

-- a space, a tab, a line feed or a carriage return
abbrev pub is_blank : ℕ → Bool
is_blank c = c == 32 || c == 9 || c == 10 || c == 13

abbrev pub is_from_to : ℕ → ℕ → ℕ → Bool
is_from_to a z c = nat_le a c && nat_le c z

-- the digit that a character is: `0` to `9`, `A` to `F`, `a` to `f`
unfoldable pub digit_of : ℕ → Option ℕ
digit_of c =
    (if is_from_to 48 57 c then Some (c - 48) else
    (if is_from_to 65 70 c then Some (c - 55) else
    (if is_from_to 97 102 c then Some (c - 87) else None)))

-- ---- what a character changes

-- where octets may begin
unfoldable pub between : ℕ → ℕ → Result Phase HexFault
between place c =
    (if is_blank c then Ok Between else
    (if c == 35 then Ok Comment else
    ok_or (option_map First (digit_of c)) (NoDigit place)))

-- behind a #, up to the end of the line
unfoldable pub comment : ℕ → Phase
comment c = (if c == 10 then Between else Comment)

-- what was read: where the reading stands or what is wrong, and the octets so far
pub record Readout : Type 0 where
  pub phase : Result Phase HexFault
  pub octets : List ℕ

-- the second digit of an octet whose first is d, with room for so many octets
unfoldable pub second : ℕ → ℕ → ℕ → List ℕ → Option ℕ → Readout
second room place d s None = record { phase = Err (NoDigit place); octets = s }
second room place d s (Some e) =
    (if nat_lt (length s) room then record { phase = Ok Between; octets = s ++ (d * 16 + e) ∷ [] } else record { phase = Err Long; octets = s })

unfoldable pub stepped : ℕ → ℕ → Result Phase HexFault → List ℕ → ℕ → Readout
stepped room place (Ok Between) s c = record { phase = between place c; octets = s }
stepped room place (Ok Comment) s c = record { phase = Ok (comment c); octets = s }
stepped room place (Ok (First d)) s c = second room place d s (digit_of c)
stepped room place (Err fault) s c = record { phase = Err fault; octets = s }

-- ---- a text, character by character from a place on

unfoldable pub read_from : ℕ → ℕ → Readout → List ℕ → Readout
read_from room place r [] = r
read_from room place r (c ∷ text) = read_from room (suc place) (stepped room place r.phase r.octets c) text

abbrev pub readout : ℕ → List ℕ → Readout
readout room text = read_from room 0 (record { phase = Ok Between; octets = [] }) text

-- at the end of the text
unfoldable pub answer : Result Phase HexFault → ℕ → Result ℕ HexFault
answer (Ok Between) n = Ok n
answer (Ok Comment) n = Ok n
answer (Ok (First d)) n = Err Half
answer (Err fault) n = Err fault

-- r was answered to a text, and a lent `out` is then `after`: the octets read, and behind them what stood there before
pub record Read (text out after : List ℕ) (r : Result ℕ HexFault) : Type 0 where
  pub answered : r ≡ answer (readout (length out) text).phase (length (readout (length out) text).octets)
  pub octets : after ≡ (readout (length out) text).octets ++ drop (length (readout (length out) text).octets) out
