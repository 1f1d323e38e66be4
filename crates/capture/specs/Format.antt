-- What a capture is (docs/RULES.md, 'A day's capture, replayed').
use Rattle.std.specs.Prelude.{ℕ, zero, suc, ◌+◌, ◌*◌, Bool, not, ◌&&◌, ◌||◌, List, length, get_or, eqb, leb}
use Rattle.base.specs.Octets.{u16, u32}
use Rattle.base.specs.Count.{every}

-- the most octets of a capture
abbrev pub most_octets : ℕ
most_octets = 60000

-- the most entries
abbrev pub most_entries : ℕ
most_entries = 1000

-- ---- the header: how many entries there are, and where their data starts

unfoldable pub count : List ℕ → ℕ
count t = u32 t 0

unfoldable pub data_offset : List ℕ → ℕ
data_offset t = u32 t 4

-- ---- the index: of each entry, in 8 octets, its kind, a zero, how many octets it has, and where in the capture they start

-- where entry i stands in the index
abbrev pub place : ℕ → ℕ
place i = 8 + i * 8

abbrev pub kind : List ℕ → ℕ → ℕ
kind t i = get_or t (place i) 0

abbrev pub zero_octet : List ℕ → ℕ → ℕ
zero_octet t i = get_or t (place i + 1) 0

abbrev pub size : List ℕ → ℕ → ℕ
size t i = u16 t (place i + 2)

abbrev pub offset : List ℕ → ℕ → ℕ
offset t i = u32 t (place i + 4)

-- ---- an entry by itself

-- kinds: 0 received, 1 sent, 2 forget
unfoldable pub kind_right : List ℕ → ℕ → Bool
kind_right t i = leb (kind t i) 2

unfoldable pub zero_right : List ℕ → ℕ → Bool
zero_right t i = eqb (zero_octet t i) 0

-- one octet at least and 4,096 at most; a forget is a side and an id, in 5
unfoldable pub size_fits : ℕ → ℕ → Bool
size_fits k n = leb 1 n && (leb n 4096 && (not (eqb k 2) || eqb n 5))

unfoldable pub size_right : List ℕ → ℕ → Bool
size_right t i = size_fits (kind t i) (size t i)

unfoldable pub entry_right : List ℕ → ℕ → Bool
entry_right t i = kind_right t i && (zero_right t i && size_right t i)

-- ---- the whole

-- header and index are whole, with no more entries than allowed, and the data starts behind the index
unfoldable pub headed : List ℕ → Bool
headed t = leb 8 (length t) && (leb (count t) most_entries && (eqb (data_offset t) (place (count t)) && leb (data_offset t) (length t)))

-- where the data of the first i entries ends, if it stands end to end
unfoldable pub data_end : List ℕ → ℕ → ℕ
data_end t zero = data_offset t
data_end t (suc i) = data_end t i + size t i

-- entry i's data starts where that of the entries before it ends
unfoldable pub placed : List ℕ → ℕ → Bool
placed t i = eqb (offset t i) (data_end t i)

-- no gap and no overlap, and the last entry ends with the capture
unfoldable pub end_to_end : List ℕ → Bool
end_to_end t = every (placed t) (count t) && eqb (data_end t (count t)) (length t)

unfoldable pub valid : List ℕ → Bool
valid t = leb (length t) most_octets && (headed t && (every (entry_right t) (count t) && end_to_end t))
