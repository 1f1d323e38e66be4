-- What the code's answers say in the definitions' values, and what a turn of the walk promises.
use Rattle.std.specs.Prelude.{ℕ, ◌+◌, ◌-◌, ◌≤◌, ◌≡◌, Bool, true, false, cond, ◌&&◌, List, [], ◌∷◌, eqb, length, get_or, Result, Ok, Err, Option, Some, None}
use Rattle.base.specs.Octets.{part}
use Rattle.records.specs.declared.State.{State}
use Rattle.records.specs.Held.{Held}
use Rattle.protocol.specs.declared.Refusal.{Refusal}
use Rattle.protocol.specs.declared.Requested.{Requested}
use Rattle.capture.specs.Format.{count}
use Rattle.capture.specs.Entry.{following}
use Rattle.player.specs.declared.Report.{Report}
use Rattle.player.specs.declared.Report.TheVariants.{Agree, Differs}
use Rattle.player.specs.declared.Refusal.{Refusal as Unplayed}
use Rattle.player.specs.declared.Refusal.TheVariants.{InvalidTable, MalformedCapture}
use Rattle.player.specs.declared.written.Mismatch.{Mismatch}
use Rattle.player.specs.declared.turn.Turn.{Turn}
use Rattle.player.specs.Play.{same_octets, Step, differs, goes, Verdict, agree, differs_at, refused_with, play}

abbrev pub report_verdict : Report → Verdict
report_verdict (Agree n) = agree n
report_verdict (Differs k) = differs_at k

abbrev pub refusal_number : Unplayed → ℕ
refusal_number InvalidTable = 1
refusal_number MalformedCapture = 20

unfoldable pub read_report : Result Report Unplayed → Verdict
read_report (Ok r) = report_verdict r
read_report (Err why) = refused_with (refusal_number why)

-- ---- what a request or forget leads to, its octets x held against those written, w

unfoldable pub held_by : Result (Unit {0}) Refusal → Held → List ℕ → List ℕ → Step
held_by (Ok nothing) s w x = cond (same_octets w x) (goes s []) differs
held_by (Err why) s w x = differs

-- the state with the store beside it
abbrev pub beside : State → List ℕ → Held
beside s store = record { state = s; store = store }

-- what fits no call differs; of a call what it wrote stands at the front of the output
unfoldable pub read_requested : Option Requested → List ℕ → List ℕ → List ℕ → Step
read_requested (Some r) store out x = held_by r.outcome (beside r.state store) (part out 0 r.written) x
read_requested None store out x = differs

-- ---- what receive writes

-- the last octet of the code of probe, and ENUMERATED finished
abbrev pub finished_end : List ℕ
finished_end = 0xFE ∷ 0x0A ∷ 0x01 ∷ 0x01 ∷ []

-- a Result of a probe that says finished, behind which the kept answer stands
unfoldable pub says_finished : List ℕ → Bool
says_finished x = eqb (get_or x 0 0) 0xA2 && same_octets (part x (length x - 4) (length x)) finished_end

-- the octets are as many as the length octet says
abbrev pub Sized : List ℕ → Type 0
Sized x = length x ≡ 2 + get_or x 1 0

-- nothing, one APDU, or the Result of a probe and the kept answer behind it
pub data Writes : List (List ℕ) → Type 0 where
  nothing : Writes []
  one : (x : List ℕ) → Sized x → says_finished x ≡ false → Writes (x ∷ [])
  two : (x y : List ℕ) → Sized x → says_finished x ≡ true → Writes (x ∷ y ∷ [])

-- ---- a turn of the walk

-- the capture t played on from number k
unfoldable pub onward : List ℕ → List ℕ → ℕ → Held → List (List ℕ) → Verdict
onward T t k s l = play T t (count t - k) k s l

-- the verdict v is what playing on from place n gives, with what the end holds and the APDUs that are awaited, n being no earlier than k; or that the place differs
unfoldable pub Leads : List ℕ → List ℕ → ℕ → Verdict → Held → List (List ℕ) → Result ℕ Mismatch → Type 0
Leads T t k v s l (Ok n) = (v ≡ onward T t n s l) × (k ≤ n) × (k ≤ count t → n ≤ count t)
Leads T t k v s l (Err m) = v ≡ differs_at m.0

-- the place of the turn, where nothing is awaited
unfoldable pub Turned : List ℕ → List ℕ → ℕ → Verdict → List ℕ → Result Turn Mismatch → Type 0
Turned T t k v store (Ok q) = (v ≡ onward T t q.at (beside q.state store) []) × (k ≤ q.at) × (k ≤ count t → q.at ≤ count t)
Turned T t k v store (Err m) = v ≡ differs_at m.0

-- the turn that a step g at entry k of t leads to
unfoldable pub Led : List ℕ → ℕ → List ℕ → Step → Result Turn Mismatch → Type 0
Led t k store g (Ok q) = (g ≡ goes (beside q.state store) []) × (q.at ≡ following t k)
Led t k store g (Err m) = (g ≡ differs) × (m.0 ≡ k)

-- the verdict that the whole walk ends with
abbrev pub walk_verdict : Result ℕ Mismatch → Verdict
walk_verdict (Ok n) = agree n
walk_verdict (Err m) = differs_at m.0
