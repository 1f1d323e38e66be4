-- The ids that rest, own ids that were forgotten: docs/RULES.md, 'Ids that rest'. What resting means is said of their list, oldest first.
use Rattle.std.specs.Prelude.{ℕ, ◌-◌, Bool, ◌&&◌, List, [], ◌∷◌, ◌++◌, length, take, drop, replicate, nat_le, if◌then◌else◌}
use Rattle.records.specs.declared.Record.{Record}
use Rattle.records.specs.declared.Resting.{Resting}
use Rattle.records.specs.Limits.{resting}
use Rattle.records.specs.Numbers.{each_once, none_among, all_zero}
use Rattle.records.specs.Records.{ids_of}

-- the ids that rest, oldest first: those below the count
abbrev pub view_ids : Resting → List ℕ
view_ids r = take r.count r.ids

-- the resting ids are these, every place behind them 0
abbrev pub pack_ids : List ℕ → Resting
pack_ids l = record { count = length l; ids = l ++ replicate (resting - length l) 0 }

-- resting ids are sound beside the live own records: at most 64, none twice, none among those records, unused places 0
abbrev pub sound_resting : List Record → Resting → Bool
sound_resting owns r = nat_le r.count resting && (each_once (view_ids r) && (none_among (view_ids r) (ids_of owns) && all_zero (drop r.count r.ids)))

-- those that stay when one more enters: where 64 rest the oldest leaves
abbrev pub staying : List ℕ → List ℕ
staying l = if nat_le resting (length l) then drop 1 l else l

-- a forgotten id goes last
abbrev pub rested : Resting → ℕ → Resting
rested r i = pack_ids (staying (view_ids r) ++ i ∷ [])
