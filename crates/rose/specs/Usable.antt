-- What a call works on, as the definitions speak of it.
use Rattle.std.specs.Prelude.{ℕ, ◌≡◌, true, false, List, Option, Some, None}
use Rattle.records.specs.declared.Record.{Record}
use Rattle.records.specs.Held.{Held}
use Rattle.protocol.specs.Check.{is_linked, linked_to}
use Rattle.rose.specs.declared.usable.Live.{Live}
use Rattle.rose.specs.declared.usable.Usable.{Usable}
use Rattle.rose.specs.Places.{IsLive}

-- the end
abbrev pub held : Usable → Held
held u = record { state = u.state.now; store = u.store.now }

-- the table
abbrev pub table : Usable → List ℕ
table u = u.table.octets.now

-- the parent of a linked id among the records l, which is one of theirs where there is a linked id
abbrev pub IsParent : List ℕ → List Record → Option ℕ → Option Live → Type 0
IsParent T l n None = is_linked n ≡ false
IsParent T l n (Some v) = (is_linked n ≡ true) × IsLive T l (linked_to n) v
