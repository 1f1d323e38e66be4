-- The invariant of a run of the two ends, and what keeps each of its parts.
use Rattle.std.specs.Prelude.{Option, Some, None}
use Prim.Native.Nat.{ℕ, ◌≤◌}
use mathlib.Core.Path.{◌≡◌, refl}
use mathlib.Core.Bool.{true, false}
use mathlib.Core.List.Memᴰ.{not-nil as in-nil}
use mathlib.Core.List.{List, [], Memᴰ as In}
use mathlib.Core.Logic.{◌⊎◌, ◌≢◌}
use lib.ListN.{length, get_or}
use Rattle.codes.specs.declared.Code.{Code}
use Rattle.records.specs.declared.Record.{Record}
use Rattle.records.specs.Limits.{octets}
use Rattle.records.specs.Kept.{KeptAnswer}
use Rattle.records.specs.Held.{fresh_held, kept_answers}
use Rattle.records.specs.Numbers.{among, each_once}
use Rattle.records.proofs.IdLaws.{never_both}
use Rattle.records.proofs.StoreLaws.{view_packed}
use Rattle.records.specs.Records.{ids_of}
use Rattle.optable.specs.Lookup.{operation_of, result_of, error_of, parameter_of}
use Rattle.optable.specs.Value.{value_right}
use Rattle.apdu.specs.Field.{Part, octets_of}
use Rattle.apdu.specs.Parse.{Apdu, parse, invoke as Invoke, result as Result, error as Error}
use Rattle.apdu.proofs.RoundTrip.{body_of}
use Rattle.protocol.specs.Check.{class_in, is_class, own_records, peer_records}
use Rattle.protocol.specs.Receive.{field_code}
use Rattle.protocol.specs.ShownWasGiven.{Small}
use Rattle.protocol.specs.Book.{kiosk, controller, a_result, an_error, Given, Wired, wired, Answered, World, begin}
use Rattle.apdu.proofs.FieldRoundTrip.{CodeFits}
use Rattle.protocol.proofs.Steady.{Steady, steady_fresh}

-- ---- the parts

-- the kiosk's invocations: its own records are the live ids, with the codes asked; what was shown is asked, gone, and shown once
pub record Ours (owns : List Record) (live : List ℕ) (asked : List Record) (shown : List ℕ) : Type 0 where
  pub alive : live ≡ ids_of owns
  pub mine : (r : Record) → In r owns → In r asked
  pub unique : each_once (ids_of asked) ≡ true
  pub fits : (r : Record) → In r asked → Small r.id × CodeFits r.code
  pub early : (i : ℕ) → among i shown ≡ true → among i (ids_of asked) ≡ true
  pub gone : (i : ℕ) → among i shown ≡ true → among i (ids_of owns) ≡ false
  pub once : each_once shown ≡ true

-- each Invoke on the wire from the kiosk was asked
abbrev pub Spoken : List Wired → List Record → Type 0
Spoken wire asked = (x : List ℕ) → In (wired kiosk x) wire → (i : ℕ) (l : Option ℕ) (c : Option Code) (v : Option Part) → parse x ≡ Invoke i l c v
    → In (record { id = i; code = field_code c }) asked

-- the controller's peer records were heard, and what was heard was asked
pub record Known (peers heard asked : List Record) : Type 0 where
  pub theirs : (r : Record) → In r peers → In r heard
  pub hears : (r : Record) → In r heard → In r asked

abbrev pub NoAnswer : List ℕ → Type 0
NoAnswer x = (get_or x 0 0 ≢ 0xA2) × (get_or x 0 0 ≢ 0xA3)

abbrev pub NoInvoke : List ℕ → Type 0
NoInvoke x = get_or x 0 0 ≢ 0xA1

-- an APDU that stands in the book as an answer
abbrev pub IsAnswer : List Answered → List ℕ → Type 0
IsAnswer answers x = (e : Answered) × In e answers × (e.apdu ≡ x)

-- an APDU that the controller may write: an answer of the book, or neither a result nor an error
abbrev pub Sayable : List Answered → List ℕ → Type 0
Sayable answers x = IsAnswer answers x ⊎ NoAnswer x

abbrev pub Sent : List Wired → List Answered → Type 0
Sent wire answers = (x : List ℕ) → In (wired controller x) wire → Sayable answers x

-- each answer that the controller keeps stands in the book
abbrev pub Stored : List KeptAnswer → List Answered → Type 0
Stored kept answers = (k : KeptAnswer) → In k kept → IsAnswer answers k.apdu

-- no answer that the kiosk keeps is an Invoke, which a probe of the controller's could put on the wire
abbrev pub Quiet : List KeptAnswer → Type 0
Quiet kept = (k : KeptAnswer) → In k kept → NoInvoke k.apdu

-- an answer reads back as it was given, and the controller's table let it pass
pub record ToldResult (N : List ℕ) (p : Apdu) (g : Given) : Type 0 where
  pub kind : g.kind ≡ a_result
  pub error : ◌≡◌ {A = Option Code} g.error None
  pub shown : Option Part
  pub octets : octets_of shown ≡ g.value
  pub reads : p ≡ Result g.id (body_of g.operation shown)
  pub class : is_class 3 5 (class_in N g.operation) ≡ false
  pub right : value_right (result_of (operation_of N g.operation)) g.value ≡ true

pub record ToldError (N : List ℕ) (p : Apdu) (g : Given) : Type 0 where
  pub kind : g.kind ≡ an_error
  pub code : Code
  pub error : g.error ≡ Some code
  pub shown : Option Part
  pub octets : octets_of shown ≡ g.value
  pub reads : p ≡ Error g.id (Some code) shown
  pub class : is_class 4 5 (class_in N g.operation) ≡ false
  pub right : value_right (parameter_of (error_of N code)) g.value ≡ true

pub record Told (N : List ℕ) (heard : List Record) (e : Answered) : Type 0 where
  pub size : length e.apdu ≤ octets
  pub from : In (record { id = e.given.id; code = e.given.operation }) heard
  pub says : ToldResult N (parse e.apdu) e.given ⊎ ToldError N (parse e.apdu) e.given

-- ---- the whole

-- what the book says, beside what the two ends hold
pub record Agrees (N : List ℕ) (w : World) : Type 0 where
  pub ours : Ours (own_records w.kiosk) w.book.live w.book.asked w.shown
  pub spoken : Spoken w.book.wire w.book.asked
  pub known : Known (peer_records w.controller) w.book.heard w.book.asked
  pub sent : Sent w.book.wire w.book.given
  pub told : (e : Answered) → In e w.book.given → Told N w.book.heard e
  pub stored : Stored (kept_answers w.controller) w.book.given
  pub quiet : Quiet (kept_answers w.kiosk)

-- and both ends reach only sound states that their tables cover
pub record Inv (O N : List ℕ) (w : World) : Type 0 where
  pub steady_k : Steady O w.kiosk
  pub steady_c : Steady N w.controller
  pub agrees : Agrees N w

-- a fresh end keeps no answer
fresh_keeps : kept_answers fresh_held ≡ []
fresh_keeps = view_packed [] (λ k m. absurd (in-nil m))

pub inv_begin : (O N : List ℕ) → Inv O N (begin fresh_held)
inv_begin O N = record {
  steady_k = steady_fresh O;
  steady_c = steady_fresh N;
  agrees = record {
    ours = record {
      alive = refl;
      mine = λ r m. absurd (in-nil m);
      unique = refl;
      fits = λ r m. absurd (in-nil m);
      early = λ i h. absurd (never_both false h refl);
      gone = λ i h. absurd (never_both false h refl);
      once = refl;
    };
    spoken = λ x m. absurd (in-nil m);
    known = record { theirs = λ r m. m; hears = λ r m. m };
    sent = λ x m. absurd (in-nil m);
    told = λ e m. absurd (in-nil m);
    stored = λ k m. absurd (in-nil (rw fresh_keeps at m));
    quiet = λ k m. absurd (in-nil (rw fresh_keeps at m));
  };
}
