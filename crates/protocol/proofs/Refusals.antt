-- Refusals: each has one of the numbers of 'The table of refusals', and one that is no 18 has nothing but its number.
use Prim.Native.Nat.{ℕ, ◌≤◌}
use mathlib.Core.Path.{◌≡◌, refl}
use mathlib.Core.Logic.{◌≢◌}
use native.Mathlib.Omega.{arith}
use mathlib.Core.List.{List, [], ◌∷◌}
use lib.Dec.{lit≤}
use types.Run.{OneOf}
use denote.Enum.Declared.{tag_of}
use Rattle.base.proofs.Keys.{no_key}
use Rattle.protocol.specs.contracts.Refusal as refusal
use Rattle.protocol.specs.declared.Refusal.{Refusal as Reason}
use Rattle.protocol.specs.declared.Refusal.TheVariants.{InvalidTable, ShortOutput, LongInput, UnknownOperation, IdInUse, SynchronousLive, UnknownLinkedId, NotAChild, MalformedValue, MistypedValue, NoRecord, WrongClass, UnlistedError, RecordsFull, LargeApdu, WrongProblem, UnacceptableReject, Rejected, UnsoundState, TrailingOctets, IdResting}
use Rattle.protocol.specs.Call.{plain, refusal_number}
use Rattle.protocol.specs.Reading.{read_refusal}

-- validates `read_refusal`: a refusal carries a number of the table, 20 being that of a capture
pub numbered : (why : Reason) → (1 ≤ refusal_number (read_refusal why)) × (refusal_number (read_refusal why) ≤ 22) × (refusal_number (read_refusal why) ≢ 20)
unfolding read_refusal
numbered InvalidTable = (lit≤ tt, lit≤ tt, omega arith)
numbered ShortOutput = (lit≤ tt, lit≤ tt, omega arith)
numbered LongInput = (lit≤ tt, lit≤ tt, omega arith)
numbered UnknownOperation = (lit≤ tt, lit≤ tt, omega arith)
numbered IdInUse = (lit≤ tt, lit≤ tt, omega arith)
numbered SynchronousLive = (lit≤ tt, lit≤ tt, omega arith)
numbered UnknownLinkedId = (lit≤ tt, lit≤ tt, omega arith)
numbered NotAChild = (lit≤ tt, lit≤ tt, omega arith)
numbered MalformedValue = (lit≤ tt, lit≤ tt, omega arith)
numbered MistypedValue = (lit≤ tt, lit≤ tt, omega arith)
numbered NoRecord = (lit≤ tt, lit≤ tt, omega arith)
numbered WrongClass = (lit≤ tt, lit≤ tt, omega arith)
numbered UnlistedError = (lit≤ tt, lit≤ tt, omega arith)
numbered RecordsFull = (lit≤ tt, lit≤ tt, omega arith)
numbered LargeApdu = (lit≤ tt, lit≤ tt, omega arith)
numbered WrongProblem = (lit≤ tt, lit≤ tt, omega arith)
numbered UnacceptableReject = (lit≤ tt, lit≤ tt, omega arith)
numbered (Rejected i k p) = (lit≤ tt, lit≤ tt, omega arith)
numbered UnsoundState = (lit≤ tt, lit≤ tt, omega arith)
numbered TrailingOctets = (lit≤ tt, lit≤ tt, omega arith)
numbered IdResting = (lit≤ tt, lit≤ tt, omega arith)

-- ---- one that has not the tag of an 18

-- the tags of all but an 18, behind the first
abbrev others : List ℕ
others = 1 ∷ 2 ∷ 3 ∷ 4 ∷ 5 ∷ 6 ∷ 7 ∷ 8 ∷ 9 ∷ 10 ∷ 11 ∷ 12 ∷ 13 ∷ 14 ∷ 15 ∷ 16 ∷ 18 ∷ 19 ∷ 20 ∷ []

pub only_rejected : (why : Reason) → OneOf (0 ∷ others) (tag_of refusal.the_type why) → read_refusal why ≡ plain (refusal_number (read_refusal why))
unfolding read_refusal
only_rejected InvalidTable h = refl
only_rejected ShortOutput h = refl
only_rejected LongInput h = refl
only_rejected UnknownOperation h = refl
only_rejected IdInUse h = refl
only_rejected SynchronousLive h = refl
only_rejected UnknownLinkedId h = refl
only_rejected NotAChild h = refl
only_rejected MalformedValue h = refl
only_rejected MistypedValue h = refl
only_rejected NoRecord h = refl
only_rejected WrongClass h = refl
only_rejected UnlistedError h = refl
only_rejected RecordsFull h = refl
only_rejected LargeApdu h = refl
only_rejected WrongProblem h = refl
only_rejected UnacceptableReject h = refl
only_rejected (Rejected i k p) h = absurd (no_key 0 others 17 refl h)
only_rejected UnsoundState h = refl
only_rejected TrailingOctets h = refl
only_rejected IdResting h = refl
