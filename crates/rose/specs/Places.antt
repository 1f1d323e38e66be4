-- Where the operations of live records stand: what a usable table is known by.
use Rattle.std.specs.Prelude.{ℕ, ◌≡◌, true, List, Option, Some, map, take, length}
use Rattle.records.specs.declared.Record.{Record}
use Rattle.records.specs.Records.{member}
use Rattle.optable.specs.declared.Part.TheVariants.{Operations}
use Rattle.optable.specs.Lookup.{find, operation_of}
use Rattle.protocol.specs.Check.{code_in}
use Rattle.rose.specs.declared.usable.Live.{Live}

-- where the operation of each record stands
abbrev pub places_of : List ℕ → List Record → List (Option ℕ)
places_of T l = map (λ r. find T Operations r.code) l

-- the first of these numbers are the places of the records' operations, one for each
abbrev pub Stand : List ℕ → List ℕ → List Record → Type 0
Stand T p l = map Some (take (length l) p) ≡ places_of T l

-- the record of the id among these: its code, and its operation as it stands in the table
pub record IsLive (T : List ℕ) (l : List Record) (i : ℕ) (v : Live) : Type 0 where
  pub live : member i l ≡ true
  pub code : v.code ≡ code_in l i
  pub place : v.place ≡ find T Operations (code_in l i)
  pub operation : Some v.operation ≡ operation_of T (code_in l i)
