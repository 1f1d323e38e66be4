-- The theorem is not empty, and its premises are needed: runs, and what becomes of them. Computed.antt computes them.
use Rattle.std.specs.Prelude.{Option, Some, None}
use Prim.Native.Nat.{ℕ}
use mathlib.Core.List.{List, [], ◌∷◌}
use Rattle.codes.specs.declared.Code.{Code}
use Rattle.codes.specs.declared.Code.TheVariants.{Local, Global}
use Rattle.codes.specs.Code.{name_of}
use Rattle.records.specs.Held.{fresh_held}
use Rattle.apdu.specs.Encode.{encode_invoke, encode_result, encode_error, encode_reject}
use Rattle.protocol.specs.Call.{own, receive, invoke, result, error, forget, Refusal, plain, rejecting, Answer, accepted, refused}
use Rattle.protocol.specs.Book.{kiosk, controller, Event, at, World, begin, answer_to, next, final}
use Rattle.protocol.proofs.WitnessTables.{table_o, table_n, table_x, table_l, table_s, table_p, table_g, table_h}

-- ---- calls

abbrev pub seven : Code
seven = Local 7

abbrev pub named1 : Code
named1 = Global (name_of (0x2B ∷ 0x06 ∷ 0x01 ∷ []))

abbrev named2 : Code
named2 = Global (name_of (0x2B ∷ 0x06 ∷ 0x02 ∷ []))

abbrev error_code : ℕ → Code
error_code n = Local n

abbrev pub three : List ℕ
three = 0x02 ∷ 0x01 ∷ 0x03 ∷ []

abbrev pub zero02 : List ℕ
zero02 = 0x02 ∷ 0x01 ∷ 0x00 ∷ []

-- an indefinite length, closed and not
abbrev closed30 : List ℕ
closed30 = 0x30 ∷ 0x80 ∷ 0x02 ∷ 0x01 ∷ 0x05 ∷ 0x00 ∷ 0x00 ∷ []

abbrev open30 : List ℕ
open30 = 0x30 ∷ 0x80 ∷ 0x02 ∷ 0x01 ∷ 0x05 ∷ []

abbrev ask : ℕ → Event
ask i = at kiosk (invoke i seven None three 100)

abbrev hear : ℕ → Event
hear i = at controller (receive (encode_invoke i None seven (Some three)) 11)

abbrev pub give_result : ℕ → List ℕ → Event
give_result i v = at controller (result i v 100)

abbrev give_error : ℕ → ℕ → Event
give_error i e = at controller (error i (error_code e) [] 100)

abbrev get_result : ℕ → Option (List ℕ) → Event
get_result i v = at kiosk (receive (encode_result i seven v) 11)

abbrev get_error : ℕ → ℕ → Event
get_error i e = at kiosk (receive (encode_error i (error_code e) None) 11)

-- ---- runs, and what becomes of them

pub record Run : Type 0 where
  pub at_kiosk : List ℕ
  pub at_controller : List ℕ
  pub events : List Event

-- the refusal of each call, if it was refused, and the ids of the results and errors that the kiosk showed
pub record Tells : Type 0 where
  pub refusals : List (Option Refusal)
  pub shown : List ℕ

abbrev refusal_of : Answer → Option Refusal
refusal_of (accepted i s x) = None
refusal_of (refused r) = Some r

abbrev refusals_of : List ℕ → List ℕ → World → List Event → List (Option Refusal)
refusals_of O N w [] = []
refusals_of O N w (e ∷ l) = refusal_of (answer_to O N w e) ∷ refusals_of O N (next O N w e) l

abbrev pub tells : Run → Tells
tells r = record { refusals = refusals_of r.at_kiosk r.at_controller (begin fresh_held) r.events; shown = (final r.at_kiosk r.at_controller (begin fresh_held) r.events).shown }

-- a result is shown once though its APDU arrives twice; an error; an absent result; an unlisted error of each sort
abbrev pub good : List Event
good =
    ask 1 ∷ hear 1 ∷ give_result 1 zero02 ∷ get_result 1 (Some zero02) ∷ get_result 1 (Some zero02)
    ∷ ask 2 ∷ hear 2 ∷ give_error 2 1 ∷ get_error 2 1
    ∷ ask 3 ∷ hear 3 ∷ give_result 3 [] ∷ get_result 3 None
    ∷ ask 4 ∷ hear 4 ∷ give_error 4 2 ∷ get_error 4 2
    ∷ ask 5 ∷ hear 5 ∷ give_error 5 3 ∷ get_error 5 3
    ∷ []

-- the controller rejects the kiosk's result to its own invocation 1: the kiosk's invocation 1 stays live, and its answer is shown
abbrev spared : List Event
spared =
    ask 1
    ∷ at controller (invoke 1 seven None three 100)
    ∷ at kiosk (receive (encode_invoke 1 None seven (Some three)) 11)
    ∷ at kiosk (result 1 zero02 100)
    ∷ at controller (forget own 1)
    ∷ at controller (receive (encode_result 1 seven (Some zero02)) 11)
    ∷ at kiosk (receive (encode_reject (Some 1) 0x82 0) 11)
    ∷ hear 1 ∷ give_result 1 zero02 ∷ get_result 1 (Some zero02)
    ∷ []

-- while it performs invocation 1 the controller asks back: the kiosk finds the linked id among its own records
abbrev linked : List Event
linked =
    ask 1 ∷ hear 1
    ∷ at controller (invoke 9 seven (Some 1) three 100)
    ∷ at kiosk (receive (encode_invoke 9 (Some 1) seven (Some three)) 11)
    ∷ []

-- a class 5 invocation makes no record at either end, so that neither finds the id again
abbrev silent : List Event
silent = ask 1 ∷ hear 1 ∷ ask 1 ∷ hear 1 ∷ []

-- a value of an indefinite length is carried as it was given, and is shown; one that is not closed is not sent
abbrev indefinite : List Event
indefinite =
    at kiosk (invoke 1 seven None closed30 100)
    ∷ at controller (receive (encode_invoke 1 None seven (Some closed30)) 11)
    ∷ give_result 1 open30 ∷ give_result 1 closed30 ∷ get_result 1 (Some closed30)
    ∷ []

-- an operation and an error by name, each of another index at the other end; a name that no operation has is refused
abbrev pub named : List Event
named =
    at kiosk (invoke 1 named1 None three 100)
    ∷ at controller (receive (encode_invoke 1 None named1 (Some three)) 11)
    ∷ give_result 1 zero02
    ∷ at kiosk (receive (encode_result 1 named1 (Some zero02)) 11)
    ∷ at kiosk (invoke 2 named1 None three 100)
    ∷ at controller (receive (encode_invoke 2 None named1 (Some three)) 11)
    ∷ at controller (error 2 named2 [] 100)
    ∷ at kiosk (receive (encode_error 2 named2 None) 11)
    ∷ at kiosk (invoke 3 named2 None three 100)
    ∷ []

-- a forgotten id rests: its answer comes late and is refused, and the id is not asked again; another one is
abbrev late : List Event
late =
    ask 1 ∷ hear 1 ∷ at kiosk (forget own 1) ∷ ask 1
    ∷ give_result 1 zero02 ∷ get_result 1 (Some zero02)
    ∷ ask 1 ∷ ask 2
    ∷ []

-- an id asked twice: the repeat of the first answer is taken for the second
abbrev reused : List Event
reused = ask 1 ∷ hear 1 ∷ give_result 1 zero02 ∷ get_result 1 (Some zero02) ∷ ask 1 ∷ get_result 1 (Some zero02) ∷ []

-- ten octets lent: a live id's answer is refused
abbrev cramped : List Event
cramped = ask 1 ∷ hear 1 ∷ give_result 1 zero02 ∷ at kiosk (receive (encode_result 1 seven (Some zero02)) 10) ∷ []

-- an APDU that the channel made: a result is shown that nobody gave
abbrev forged : List Event
forged = ask 1 ∷ get_result 1 (Some zero02) ∷ []

-- an APDU of the kiosk's own, carried back to it: its answer to the controller's invocation 1 is taken for the answer to its own
abbrev reflected : List Event
reflected =
    ask 1
    ∷ at controller (invoke 1 seven None three 100)
    ∷ at kiosk (receive (encode_invoke 1 None seven (Some three)) 11)
    ∷ at kiosk (result 1 zero02 100)
    ∷ get_result 1 (Some zero02)
    ∷ []

-- the controller's table is no extension: a live id's result is refused
abbrev apart : List Event
apart = ask 1 ∷ hear 1 ∷ give_result 1 (0x04 ∷ 0x00 ∷ []) ∷ at kiosk (receive (encode_result 1 seven (Some (0x04 ∷ 0x00 ∷ []))) 11) ∷ []

abbrev pub runs : List Run
runs =
    record { at_kiosk = table_o; at_controller = table_n; events = good }
    ∷ record { at_kiosk = table_o; at_controller = table_n; events = spared }
    ∷ record { at_kiosk = table_l; at_controller = table_l; events = linked }
    ∷ record { at_kiosk = table_s; at_controller = table_s; events = silent }
    ∷ record { at_kiosk = table_p; at_controller = table_p; events = indefinite }
    ∷ record { at_kiosk = table_g; at_controller = table_h; events = named }
    ∷ record { at_kiosk = table_o; at_controller = table_n; events = late }
    ∷ record { at_kiosk = table_o; at_controller = table_n; events = reused }
    ∷ record { at_kiosk = table_o; at_controller = table_n; events = cramped }
    ∷ record { at_kiosk = table_o; at_controller = table_n; events = forged }
    ∷ record { at_kiosk = table_o; at_controller = table_n; events = reflected }
    ∷ record { at_kiosk = table_o; at_controller = table_x; events = apart }
    ∷ []

abbrev pub told : List Tells
told =
    record {
      refusals =
          None ∷ None ∷ None ∷ None ∷ Some (rejecting (Some 1) 0x82 0)
          ∷ None ∷ None ∷ None ∷ None
          ∷ None ∷ None ∷ None ∷ None
          ∷ None ∷ None ∷ None ∷ Some (rejecting (Some 4) 0x83 3)
          ∷ None ∷ None ∷ None ∷ Some (rejecting (Some 5) 0x83 2)
          ∷ [];
      shown = 1 ∷ 2 ∷ 3 ∷ [];
    }
    ∷ record { refusals = None ∷ None ∷ None ∷ None ∷ None ∷ Some (rejecting (Some 1) 0x82 0) ∷ None ∷ None ∷ None ∷ None ∷ []; shown = 1 ∷ [] }
    ∷ record { refusals = None ∷ None ∷ None ∷ None ∷ []; shown = [] }
    ∷ record { refusals = None ∷ None ∷ None ∷ None ∷ []; shown = [] }
    ∷ record { refusals = None ∷ None ∷ Some (plain 9) ∷ None ∷ None ∷ []; shown = 1 ∷ [] }
    ∷ record { refusals = None ∷ None ∷ None ∷ None ∷ None ∷ None ∷ None ∷ None ∷ Some (plain 4) ∷ []; shown = 1 ∷ 2 ∷ [] }
    ∷ record { refusals = None ∷ None ∷ None ∷ Some (plain 22) ∷ None ∷ Some (rejecting (Some 1) 0x82 0) ∷ Some (plain 22) ∷ None ∷ []; shown = [] }
    ∷ record { refusals = None ∷ None ∷ None ∷ None ∷ None ∷ None ∷ []; shown = 1 ∷ 1 ∷ [] }
    ∷ record { refusals = None ∷ None ∷ None ∷ Some (plain 2) ∷ []; shown = [] }
    ∷ record { refusals = None ∷ None ∷ []; shown = 1 ∷ [] }
    ∷ record { refusals = None ∷ None ∷ None ∷ None ∷ None ∷ []; shown = 1 ∷ [] }
    ∷ record { refusals = None ∷ None ∷ None ∷ Some (rejecting (Some 1) 0x82 2) ∷ []; shown = [] }
    ∷ []
