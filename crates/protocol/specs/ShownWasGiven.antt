-- What the kiosk shows is what the controller gave, once: 'What is shown was given'. The book and its terms are in Book.antt.
use Rattle.std.specs.Prelude.{ℕ, ◌≤◌, ◌<◌, ◌^◌, ◌≡◌, true, false, cond, ◌↔◌, Option, Some, None}
use mathlib.Core.List.{List, Memᴰ as In}
use Rattle.codes.specs.declared.Code.{Code}
use Rattle.codes.specs.declared.Code.TheVariants.{Local, Global}
use Rattle.records.specs.Numbers.{among, each_once}
use Rattle.records.specs.Held.{fresh_held}
use Rattle.records.specs.Records.{ids_of}
use Rattle.optable.specs.Validity.{valid}
use Rattle.optable.specs.Lookup.{Extends, paired, error_of, known, room_needed}
use Rattle.protocol.specs.Call.{Call, receive, invoke, result, error, reject, forget, rejecting, Answer, refused, is_refused, indicated_by}
use Rattle.protocol.specs.Book.{End, kiosk, controller, other, Event, at, Given, Wired, wired, Answered, Book, World, begin, shown_by, answer_to, Along, final}

-- ---- premises

-- ids and local codes are numbers of 32 bits, as the code's types have it
abbrev pub Small : ℕ → Type 0
Small n = n < 2 ^ 32

abbrev pub SmallNumber : Option ℕ → Type 0
SmallNumber None = Unit {0}
SmallNumber (Some n) = Small n

-- of a name nothing is asked: what is no right name is in no table
abbrev pub SmallCode : Code → Type 0
SmallCode (Local x) = Small x
SmallCode (Global n) = Unit {0}

abbrev pub InRange : Call → Type 0
InRange (receive x room) = Unit {0}
InRange (invoke i c l v room) = Small i × SmallCode c × SmallNumber l
InRange (result i v room) = Small i
InRange (error i e v room) = Small i × SmallCode e
InRange (reject i p room) = Small i
InRange (forget side i) = Small i

-- Whatever the channel loses, repeats or reorders, it carries APDUs to the other end only and adds none: receive is handed one APDU that an
-- earlier call of the other end wrote.
abbrev pub Carried : List Wired → End → Call → Type 0
Carried wire e (receive x room) = In (wired (other e) x) wire
Carried wire e (invoke i c l v room) = Unit {0}
Carried wire e (result i v room) = Unit {0}
Carried wire e (error i d v room) = Unit {0}
Carried wire e (reject i p room) = Unit {0}
Carried wire e (forget side i) = Unit {0}

-- the kiosk lends what receive needs by its table: 528, 16 or 11 output octets
abbrev pub Lends : List ℕ → End → Call → Type 0
Lends O kiosk (receive x room) = room_needed O ≤ room
Lends O kiosk (invoke i c l v room) = Unit {0}
Lends O kiosk (result i v room) = Unit {0}
Lends O kiosk (error i e v room) = Unit {0}
Lends O kiosk (reject i p room) = Unit {0}
Lends O kiosk (forget side i) = Unit {0}
Lends O controller c = Unit {0}

-- what is asked of each call of the list
abbrev pub Fair : List ℕ → World → Event → Type 0
Fair O w (at e c) = InRange c × Carried w.book.wire e c × Lends O e c

-- the kiosk uses an id for one accepted invocation only
abbrev pub UsesIdsOnce : World → Type 0
UsesIdsOnce w = each_once (ids_of w.book.asked) ≡ true

-- ---- the claim

abbrev pub is_live : Book → ℕ → Type 0
is_live b i = among i b.live ≡ true

-- an error is one that O lists for the operation
abbrev pub Listed : List ℕ → Given → Type 0
Listed O g = (e : Code) → g.error ≡ Some e → paired O g.operation e ≡ true

-- unrecognizedError 2 if O lacks its code, else unexpectedError 3
abbrev pub unlisted_problem : List ℕ → Code → ℕ
unlisted_problem O e = cond (known (error_of O e)) 3 2

pub record AnswerClaim (O : List ℕ) (b : Book) (g : Given) (a : Answer) : Type 0 where
  -- an answer of the controller that reaches the kiosk is accepted exactly when its id is live and, for an error, O lists it for the operation
  pub accepts : (is_refused a ≡ false) ↔ (is_live b g.id × Listed O g)
  -- a live id's unlisted error is refused as unrecognizedError if O lacks its code, else as unexpectedError
  pub unlisted : (e : Code) → g.error ≡ Some e → is_live b g.id → paired O g.operation e ≡ false
      → a ≡ refused (rejecting (Some g.id) 0x83 (unlisted_problem O e))

-- an answer reaches the kiosk when receive there is handed it; live is read just before
abbrev pub Reaches : List ℕ → Book → Call → Answer → Type 0
Reaches O b (receive x room) a = (e : Answered) → In e b.given → e.apdu ≡ x → AnswerClaim O b e.given a
Reaches O b (invoke i c l v room) a = Unit {0}
Reaches O b (result i v room) a = Unit {0}
Reaches O b (error i d v room) a = Unit {0}
Reaches O b (reject i p room) a = Unit {0}
Reaches O b (forget side i) a = Unit {0}

-- g stands in given by then, and its id and operation code stand in asked
pub record WasGiven (b : Book) (g : Given) : Type 0 where
  pub entry : Answered
  pub stands : In entry b.given
  pub same : entry.given ≡ g
  pub asked : In (record { id = g.id; code = g.operation }) b.asked

pub record KioskClaim (O : List ℕ) (b : Book) (c : Call) (a : Answer) : Type 0 where
  -- every result or error indicated at the kiosk equals one that the controller gave, in id, operation, kind, error code and value octets or none
  pub shows : (g : Given) → shown_by (indicated_by a) ≡ Some g → WasGiven b g
  pub reaches : Reaches O b c a

abbrev pub Claim : List ℕ → List ℕ → World → Event → Type 0
Claim O N w (at kiosk c) = KioskClaim O w.book c (answer_to O N w (at kiosk c))
Claim O N w (at controller c) = Unit {0}

pub record Conclusion (O N : List ℕ) (l : List Event) : Type 0 where
  pub each : Along O N (Claim O N) (begin fresh_held) l
  -- no invocation gets two
  pub once : each_once (final O N (begin fresh_held) l).shown ≡ true

-- of a kiosk with table O and a controller with table N, both valid, N extending O, and every list of the six calls at either end, each answered by
-- the rules, refused ones included, both ends fresh at first
abbrev pub ShownWasGiven : Type 0
ShownWasGiven = (O N : List ℕ) → valid O ≡ true → valid N ≡ true → Extends N O → (l : List Event)
    → Along O N (Fair O) (begin fresh_held) l → UsesIdsOnce (final O N (begin fresh_held) l) → Conclusion O N l
