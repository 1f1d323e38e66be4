-- The two ends, the channel and the book: 'The book'. Wire, asked, heard, given and live are that part's own terms.
use Rattle.std.specs.Prelude.{ℕ, Bool, true, false, cond, List, [], ◌∷◌, ◌++◌, eqb, Option, Some, None}
use Rattle.codes.specs.declared.Code.{Code}
use Rattle.codes.specs.declared.Code.TheVariants.{Local}
use Rattle.records.specs.declared.Record.{Record}
use Rattle.records.specs.Held.{Held}
use Rattle.records.specs.Numbers.{among, leaving}
use Rattle.records.specs.Records.{ids_of}
use Rattle.apdu.specs.Field.{octets_of}
use Rattle.apdu.specs.Parse.{body_value, Apdu, badly_structured, unrecognized, mistyped, parse, invoke as Invoke, result as Result, error as Error, reject as Reject}
use Rattle.base.specs.Lists.{non_empty}
use Rattle.protocol.specs.Call.{own, peer, Call, receive, invoke, result, error, reject, forget, Indication, invoked, resulted, erred, rejected_u, rejected_p, Answer, is_refused, indicated_by, written_by, held_after}
use Rattle.protocol.specs.Check.{is_silent}
use Rattle.protocol.specs.Receive.{field_code}
use Rattle.protocol.specs.Perform.{perform}

-- the code last noted with an id, 0 where there is none
abbrev pub last_code : ℕ → List Record → Code
last_code i [] = Local 0
last_code i (r ∷ l) = cond (among i (ids_of l)) (last_code i l) (cond (eqb r.id i) r.code (Local 0))

-- ---- the list of calls: each names its end

pub data End : Type 0 where
  kiosk controller : End

abbrev pub other : End → End
other kiosk = controller
other controller = kiosk

pub data Event : Type 0 where
  at : End → Call → Event

-- ---- the book

pub data Kind : Type 0 where
  a_result an_error : Kind

-- a result or an error: id, operation, kind, error code or none, value octets or none
pub record Given : Type 0 where
  pub id : ℕ
  pub operation : Code
  pub kind : Kind
  pub error : Option Code
  pub value : Option (List ℕ)

-- an APDU written, with its end
pub record Wired : Type 0 where
  pub from : End
  pub apdu : List ℕ

abbrev pub wired : End → List ℕ → Wired
wired e x = record { from = e; apdu = x }

-- what was given, and the answer: the APDU that it wrote
pub record Answered : Type 0 where
  pub given : Given
  pub apdu : List ℕ

pub record Book : Type 0 where
  pub wire : List Wired
  pub asked : List Record
  pub heard : List Record
  pub given : List Answered
  pub live : List ℕ

-- it starts empty
abbrev pub empty_book : Book
empty_book = record { wire = []; asked = []; heard = []; given = []; live = [] }

-- ---- what an accepted call adds, by its arguments and what it wrote

-- asked: id and code of each accepted invoke request of the kiosk
abbrev pub asking : End → Call → List Record → List Record
asking kiosk (invoke i c l v room) asked = asked ++ (record { id = i; code = c } ∷ [])
asking kiosk (receive x room) asked = asked
asking kiosk (result i v room) asked = asked
asking kiosk (error i e v room) asked = asked
asking kiosk (reject i p room) asked = asked
asking kiosk (forget side i) asked = asked
asking controller c asked = asked

-- heard: id and code of each Invoke the controller's receive accepted
abbrev pub hearing_of : Apdu → List Record → List Record
hearing_of (badly_structured p) heard = heard
hearing_of unrecognized heard = heard
hearing_of (mistyped i) heard = heard
hearing_of (Invoke i l c v) heard = heard ++ (record { id = i; code = field_code c } ∷ [])
hearing_of (Result i b) heard = heard
hearing_of (Error i e v) heard = heard
hearing_of (Reject i kind p) heard = heard

abbrev pub hearing : End → Call → List Record → List Record
hearing kiosk c heard = heard
hearing controller (receive x room) heard = hearing_of (parse x) heard
hearing controller (invoke i c l v room) heard = heard
hearing controller (result i v room) heard = heard
hearing controller (error i e v room) heard = heard
hearing controller (reject i p room) heard = heard
hearing controller (forget side i) heard = heard

-- what was given, with the APDU that it wrote
abbrev pub given_by : Given → List (List ℕ) → List Answered → List Answered
given_by g [] l = l
given_by g (x ∷ more) l = l ++ (record { given = g; apdu = x } ∷ [])

-- the value of the result that an APDU is
abbrev pub value_in : Apdu → Option (List ℕ)
value_in (badly_structured p) = None
value_in unrecognized = None
value_in (mistyped i) = None
value_in (Invoke i l c v) = None
value_in (Result i b) = octets_of (body_value b)
value_in (Error i e v) = None
value_in (Reject i kind p) = None

-- an answer of the controller's own to an Invoke counts as given by its caller
abbrev pub giving_own : List Record → Apdu → List ℕ → List Answered → List Answered
giving_own heard (badly_structured p) x l = l
giving_own heard unrecognized x l = l
giving_own heard (mistyped i) x l = l
giving_own heard (Invoke i k c v) x l = l ++ (record { given = record { id = i; operation = last_code i heard; kind = a_result; error = None; value = value_in (parse x) }; apdu = x } ∷ [])
giving_own heard (Result i b) x l = l
giving_own heard (Error i e v) x l = l
giving_own heard (Reject i kind p) x l = l

-- given: each accepted result or error request of the controller and each answer of its own, with the code last heard with that id, and the APDU that it wrote;
-- an APDU behind an own answer is a kept one, which was given before
abbrev pub giving : List Record → End → Call → List (List ℕ) → List Answered → List Answered
giving heard kiosk c w l = l
giving heard controller (result i v room) w l = given_by (record { id = i; operation = last_code i heard; kind = a_result; error = None; value = non_empty v }) w l
giving heard controller (error i e v room) w l = given_by (record { id = i; operation = last_code i heard; kind = an_error; error = Some e; value = non_empty v }) w l
giving heard controller (receive y room) [] l = l
giving heard controller (receive y room) (x ∷ more) l = giving_own heard (parse y) x l
giving heard controller (invoke i c k v room) w l = l
giving heard controller (reject i p room) w l = l
giving heard controller (forget side i) w l = l

-- live: an id leaves when the kiosk accepts a result, an error or an invoke problem Reject with that id
abbrev pub leaving_by : Apdu → List ℕ → List ℕ
leaving_by (badly_structured p) l = l
leaving_by unrecognized l = l
leaving_by (mistyped i) l = l
leaving_by (Invoke i k c v) l = l
leaving_by (Result i b) l = leaving i l
leaving_by (Error i e v) l = leaving i l
leaving_by (Reject None kind p) l = l
leaving_by (Reject (Some i) kind p) l = cond (eqb kind 0x81) (leaving i l) l

-- it enters with an accepted invoke request of the kiosk, class in O not 5, and leaves also with a forget of it on its own side
abbrev pub living : List ℕ → End → Call → List ℕ → List ℕ
living O controller c l = l
living O kiosk (receive x room) l = leaving_by (parse x) l
living O kiosk (invoke i c k v room) l = cond (is_silent O c) l (l ++ (i ∷ []))
living O kiosk (result i v room) l = l
living O kiosk (error i e v room) l = l
living O kiosk (reject i p room) l = l
living O kiosk (forget own i) l = leaving i l
living O kiosk (forget peer i) l = l

-- wire: each APDU written; the Reject of an 18 counts
abbrev pub wiring : End → List (List ℕ) → List Wired → List Wired
wiring e [] wire = wire
wiring e (x ∷ more) wire = wiring e more (wire ++ (wired e x ∷ []))

-- the book is fed each call's arguments, whether it was refused, and what it wrote; a refused call changes only wire; heard comes before given, so that
-- the code last heard with the id of an own answer is that of the Invoke it answers
abbrev pub note : List ℕ → Book → Event → Bool → List (List ℕ) → Book
note O b (at e c) true w = record { wire = wiring e w b.wire; asked = b.asked; heard = b.heard; given = b.given; live = b.live }
note O b (at e c) false w = record {
  wire = wiring e w b.wire;
  asked = asking e c b.asked;
  heard = hearing e c b.heard;
  given = giving (hearing e c b.heard) e c w b.given;
  live = living O e c b.live;
}

-- ---- the run

-- what each end holds, the book, and the ids of the results and errors that the kiosk indicated so far
pub record World : Type 0 where
  pub kiosk : Held
  pub controller : Held
  pub book : Book
  pub shown : List ℕ

abbrev pub begin : Held → World
begin s = record { kiosk = s; controller = s; book = empty_book; shown = [] }

-- the result or error that an indication shows
abbrev pub shown_by : Option Indication → Option Given
shown_by None = None
shown_by (Some (invoked i l c v)) = None
shown_by (Some (resulted i b c)) = Some (record { id = i; operation = c; kind = a_result; error = None; value = octets_of (body_value b) })
shown_by (Some (erred i e v c)) = Some (record { id = i; operation = c; kind = an_error; error = Some e; value = octets_of v })
shown_by (Some (rejected_u i kind p)) = None
shown_by (Some (rejected_p i p)) = None

abbrev pub showing : Option Given → List ℕ → List ℕ
showing None shown = shown
showing (Some g) shown = shown ++ (g.id ∷ [])

-- after a call that was answered so
abbrev pub after : List ℕ → World → Event → Answer → World
after O w (at kiosk c) a = record {
  kiosk = held_after w.kiosk a;
  controller = w.controller;
  book = note O w.book (at kiosk c) (is_refused a) (written_by a);
  shown = showing (shown_by (indicated_by a)) w.shown;
}
after O w (at controller c) a = record {
  kiosk = w.kiosk;
  controller = held_after w.controller a;
  book = note O w.book (at controller c) (is_refused a) (written_by a);
  shown = w.shown;
}

-- each end keeps its table, O at the kiosk and N at the controller, and gives each call the state and the store as its last one left them
module _ (O N : List ℕ) where
  unfoldable pub answer_to : World → Event → Answer
  answer_to w (at kiosk c) = perform O w.kiosk c
  answer_to w (at controller c) = perform N w.controller c

  abbrev pub next : World → Event → World
  next w e = after O w e (answer_to w e)

  -- what holds of each call along the list
  abbrev pub Along : (World → Event → Type 0) → World → List Event → Type 0
  Along P w [] = Unit {0}
  Along P w (e ∷ l) = P w e × Along P (next w e) l

  abbrev pub final : World → List Event → World
  final w [] = w
  final w (e ∷ l) = final (next w e) l
