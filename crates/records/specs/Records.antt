-- The records of one side: docs/RULES.md, 'Records'. What finding, adding and retiring mean is said of the list of the live records.
use Rattle.std.specs.Prelude.{ℕ, ◌+◌, ◌-◌, Bool, not, ◌&&◌, List, ◌++◌, Option, map, filter, find, length, take, drop, replicate, slice_set, ◌==◌, nat_le, nat_lt, if◌then◌else◌}
use Rattle.std.specs.Option.{option_map}
use Rattle.std.specs.List.{list_all}
use Rattle.codes.specs.declared.Code.{Code}
use Rattle.codes.specs.declared.Code.TheVariants.{Local}
use Rattle.codes.specs.Code.{same_code, code_right}
use Rattle.records.specs.declared.Record.{Record}
use Rattle.records.specs.declared.Records.{Records}
use Rattle.records.specs.Limits.{records}
use Rattle.records.specs.Numbers.{among, each_once}

-- an unused place has id 0 and the local code 0
abbrev pub unused : Record
unused = record { id = 0; code = Local 0 }

-- the live records of a side, in order: those below the count
abbrev pub view : Records → List Record
view s = take s.count s.places

-- the side whose live records these are, every place behind them unused
abbrev pub pack : List Record → Records
pack l = record { count = length l; places = l ++ replicate (records - length l) unused }

-- the operation code of the record with the id
abbrev pub lookup : ℕ → List Record → Option Code
lookup n l = option_map (λ r. r.code) (find (λ r. r.id == n) l)

-- the ids of the records
abbrev pub ids_of : List Record → List ℕ
ids_of l = map (λ r. r.id) l

-- the id is among the records
abbrev pub member : ℕ → List Record → Bool
member n l = among n (ids_of l)

-- the records without the one of the id, order kept
abbrev pub without : ℕ → List Record → List Record
without n l = filter (λ r. not (r.id == n)) l

-- no id stands twice
abbrev pub distinct : List Record → Bool
distinct l = each_once (ids_of l)

-- each code has its form
abbrev pub formed : List Record → Bool
formed l = list_all (λ r. code_right r.code) l

-- the place is unused
abbrev pub is_blank : Record → Bool
is_blank r = r.id == unused.id && same_code r.code unused.code

-- each of these places is unused
abbrev pub blank : List Record → Bool
blank l = list_all is_blank l

-- a side is sound: its count is at most 32, no id stands twice, each code has its form, unused places are 0
abbrev pub sound_records : Records → Bool
sound_records s = nat_le s.count records && (distinct (view s) && (formed (view s) && blank (drop s.count s.places)))

-- a new record goes last; a full side stays as it is
abbrev pub added : Records → Record → Records
added s r = if nat_lt s.count records then record { count = s.count + 1; places = slice_set s.places s.count r } else s

-- a retired record closes the gap, order kept
abbrev pub retired : Records → ℕ → Records
retired s n = pack (without n (view s))
