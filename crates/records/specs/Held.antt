-- What one end holds from call to call: its state, and the store of its kept answers, which is lent beside it: docs/RULES.md, 'Kept answers'.
use Rattle.std.specs.Prelude.{ℕ, Bool, cond, List, []}
use Rattle.records.specs.declared.PeerId.{PeerId}
use Rattle.records.specs.declared.State.{State}
use Rattle.records.specs.Kept.{KeptAnswer, kept_without, keeping, view_kept, pack_kept, pack_store}
use Rattle.records.specs.State.{fresh, sound_state, put_kept}

pub record Held : Type 0 where
  pub state : State
  pub store : List ℕ

-- a fresh end's store is 4,096 zeros
abbrev pub fresh_held : Held
fresh_held = record { state = fresh; store = pack_store [] }

abbrev pub sound_held : Held → Bool
sound_held s = sound_state s.state s.store

-- another state, and the store as it is
abbrev pub in_state : Held → State → Held
in_state s t = record { state = t; store = s.store }

-- the kept answers, oldest first
abbrev pub kept_answers : Held → List KeptAnswer
kept_answers s = view_kept s.state.kept s.store

-- the answers that are kept are these
abbrev pub keep_these : Held → List KeptAnswer → Held
keep_these s l = record { state = put_kept s.state (pack_kept l); store = pack_store l }

-- an answer to the id is kept where b says so
abbrev pub keep_answer : Bool → Held → PeerId → List ℕ → Held
keep_answer b s id x = cond b (keep_these s (keeping (kept_answers s) (record { id = id.0; apdu = x }))) s

-- the kept answer of the id is dropped, if there is one
abbrev pub drop_answer : Held → PeerId → Held
drop_answer s id = keep_these s (kept_without id.0 (kept_answers s))
