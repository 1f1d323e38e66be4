-- One end, call after call from a fresh state: each call is given the state and the store as the last one left them, and the same table.
use Rattle.std.specs.Prelude.{ℕ, ◌≡◌, Bool, true, false, List, [], ◌∷◌, eqb}
use Rattle.records.specs.Held.{Held, fresh_held, sound_held}
use Rattle.optable.specs.Validity.{valid}
use Rattle.protocol.specs.Call.{Call, Answer, accepted, refused, refusal_number, held_after}
use Rattle.protocol.specs.Check.{usable}
use Rattle.protocol.specs.Perform.{perform}

-- whether a call is refused with number n
abbrev pub gives : ℕ → Answer → Bool
gives n (accepted i s x) = false
gives n (refused r) = eqb (refusal_number r) n

-- what holds of a state and the call made on it
pub record Fit (T : List ℕ) (s : Held) (c : Call) : Type 0 where
  pub sound : sound_held s ≡ true
  pub covers : usable T s ≡ true
  pub not19 : gives 19 (perform T s c) ≡ false
  pub not1 : gives 1 (perform T s c) ≡ false

-- along the calls of one end
abbrev pub EachFit : List ℕ → Held → List Call → Type 0
EachFit T s [] = Unit {0}
EachFit T s (c ∷ l) = Fit T s c × EachFit T (held_after s (perform T s c)) l

-- call after call from a fresh state: with one valid table, each call of any list is made on a sound state that the table covers, so that
-- 19 and 1 are never given
abbrev pub OneEnd : Type 0
OneEnd = (T : List ℕ) → valid T ≡ true → (l : List Call) → EachFit T fresh_held l
