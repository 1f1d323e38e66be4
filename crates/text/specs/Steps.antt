-- What one character does to a lent output: serves proofs.
use Rattle.std.specs.Prelude.{ℕ, ◌≤◌, ◌<◌, ◌≡◌, List, length, take, drop, Result, Ok, Err}
use Rattle.text.specs.declared.hex.HexFault.{HexFault}
use Rattle.text.specs.declared.hex.Phase.{Phase}
use Rattle.text.specs.declared.hex.Phase.TheVariants.{Between, Comment, First}
use Rattle.text.specs.declared.hex.Reading.{Reading}
use Rattle.text.specs.Hex.{Readout, stepped}

-- what stands in an output
abbrev pub standing : List ℕ → Reading → Readout
standing out r = record { phase = Ok r.phase; octets = take r.count out }

-- the digit that waits for a second
unfoldable pub waiting : Phase → ℕ
waiting Between = 0
waiting Comment = 0
waiting (First d) = d

-- a place in an output that a reading may have
pub record Sound (out : List ℕ) (r : Reading) : Type 0 where
  pub within : r.count ≤ length out
  pub digit : waiting r.phase < 16

pub record Stepped (out : List ℕ) (r : Reading) (place c : ℕ) (after : List ℕ) (q : Reading) : Type 0 where
  pub read : standing after q ≡ stepped (length out) place (Ok r.phase) (take r.count out) c
  pub behind : drop q.count after ≡ drop q.count out
  pub more : r.count ≤ q.count
  pub sound : Sound out q

-- the character is wrong, and nothing was put
pub record Stopped (out : List ℕ) (r : Reading) (place c : ℕ) (after : List ℕ) (fault : HexFault) : Type 0 where
  pub read : record { phase = Err fault; octets = take r.count out } ≡ stepped (length out) place (Ok r.phase) (take r.count out) c
  pub same : after ≡ out

abbrev pub Moved : List ℕ → Reading → ℕ → ℕ → List ℕ → Result Reading HexFault → Type 0
Moved out r place c after (Ok q) = Stepped out r place c after q
Moved out r place c after (Err fault) = Stopped out r place c after fault
