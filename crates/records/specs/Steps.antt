-- What keeping and dropping an answer do in the places where answers stand, whatever stands there.
use Rattle.std.specs.Prelude.{ℕ, ◌+◌, ◌-◌, ◌*◌, Bool, ◌&&◌, List, ◌++◌, Option, Some, None, length, take, drop, replicate, slice_set, ◌==◌, nat_le, if◌then◌else◌}
use lib.Bits.{bit_or}
use Rattle.codes.specs.declared.Code.{Code}
use Rattle.codes.specs.declared.Code.TheVariants.{Local, Global}
use Rattle.ber.specs.Output.{placed}
use Rattle.records.specs.declared.Record.{Record}
use Rattle.records.specs.declared.Kept.{Kept}
use Rattle.records.specs.Limits.{answers, answer_octets, store_octets}
use Rattle.records.specs.Kept.{no_answer, answer_place}

-- 0 for an unused place alone
abbrev pub used_in : ℕ → Code → ℕ
used_in i (Local x) = bit_or i x
used_in i (Global n) = 1

abbrev pub used : Record → ℕ
used r = used_in r.id r.code

-- the w elements of a place leave, those behind move up, and as many of z close the list
abbrev pub closed_at : {A : Type 0} → A → ℕ → ℕ → List A → List A
closed_at z w place l = take (w * place) l ++ (drop (w * place + w) l ++ replicate w z)

-- the octets of a place leave
abbrev pub store_closed : List ℕ → ℕ → List ℕ
store_closed store place = closed_at 0 answer_octets place store

-- the answer in a place leaves
abbrev pub kept_closed : Kept → ℕ → Kept
kept_closed k place = record { count = k.count - 1; places = closed_at no_answer 1 place k.places }

-- an answer of n octets is put into the next place
abbrev pub kept_put : Kept → ℕ → ℕ → Kept
kept_put k i n = record { count = k.count + 1; places = slice_set k.places k.count (record { id = i; length = n }) }

-- the octets can be kept: at most 512, in a store of 4,096, behind at most eight answers
abbrev pub fits : Kept → List ℕ → List ℕ → Bool
fits k store x = nat_le (length x) answer_octets && (length store == store_octets && nat_le k.count answers)

-- the oldest of eight makes room
abbrev pub kept_room : Kept → Kept
kept_room k = if nat_le answers k.count then kept_closed k 0 else k

abbrev pub store_room : Kept → List ℕ → List ℕ
store_room k store = if nat_le answers k.count then store_closed store 0 else store

-- an answer to i is kept
unfoldable pub kept_next : Kept → List ℕ → ℕ → List ℕ → Kept
kept_next k store i x = if fits k store x then kept_put (kept_room k) i (length x) else k

unfoldable pub store_next : Kept → List ℕ → List ℕ → List ℕ
store_next k store x = if fits k store x then placed (store_room k store) ((kept_room k).count * answer_octets) x else store

-- the answer in a place leaves, if it is one
abbrev pub kept_without_place : Kept → Option ℕ → Kept
kept_without_place k None = k
kept_without_place k (Some place) = kept_closed k place

abbrev pub store_without_place : List ℕ → Option ℕ → List ℕ
store_without_place store None = store
store_without_place store (Some place) = store_closed store place

-- the answer to i is dropped
unfoldable pub kept_less : Kept → List ℕ → ℕ → Kept
kept_less k store i = if length store == store_octets then kept_without_place k (answer_place i k) else k

unfoldable pub store_less : Kept → List ℕ → ℕ → List ℕ
store_less k store i = if length store == store_octets then store_without_place store (answer_place i k) else store
