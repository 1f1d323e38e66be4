-- Lost answers, fetched by a probe: runs, and what becomes of them. Computed.antt computes them.
use Rattle.std.specs.Prelude.{Some, None}
use Prim.Native.Nat.{ℕ}
use mathlib.Core.List.{List, [], ◌∷◌}
use Rattle.codes.specs.declared.Code.{Code}
use Rattle.optable.specs.Service.{probe_code, acknowledge_code}
use Rattle.apdu.specs.Encode.{encode_invoke, encode_result}
use Rattle.protocol.specs.Call.{receive, invoke, result, plain, rejecting}
use Rattle.protocol.specs.Service.{enumerated}
use Rattle.protocol.specs.Book.{kiosk, controller, Event, at}
use Rattle.protocol.proofs.WitnessTables.{table_f, table_q}
use Rattle.protocol.proofs.Witness.{seven, three, zero02, give_result, Run, Tells}

-- ---- calls

abbrev asks : ℕ → Code → List ℕ → Event
asks i c v = at kiosk (invoke i c None v 100)

abbrev hears : ℕ → Code → List ℕ → Event
hears i c v = at controller (receive (encode_invoke i None c (Some v)) 528)

abbrev gets : ℕ → Code → List ℕ → Event
gets i c v = at kiosk (receive (encode_result i c (Some v)) 528)

-- 30 holding A0 holding the id 1
abbrev about_one : List ℕ
about_one = 0x30 ∷ 0x05 ∷ 0xA0 ∷ 0x03 ∷ 0x02 ∷ 0x01 ∷ 0x01 ∷ []

-- the same with indefinite lengths
abbrev about_open : List ℕ
about_open = 0x30 ∷ 0x80 ∷ 0xA0 ∷ 0x80 ∷ 0x02 ∷ 0x01 ∷ 0x01 ∷ 0x00 ∷ 0x00 ∷ 0x00 ∷ 0x00 ∷ []

-- 05 00 for the id
abbrev about_null : List ℕ
about_null = 0x30 ∷ 0x04 ∷ 0xA0 ∷ 0x02 ∷ 0x05 ∷ 0x00 ∷ []

abbrev one02 : List ℕ
one02 = 0x02 ∷ 0x01 ∷ 0x01 ∷ []

-- an 02 of five octets
abbrev long02 : List ℕ
long02 = 0x02 ∷ 0x05 ∷ 0x01 ∷ 0x00 ∷ 0x00 ∷ 0x00 ∷ 0x00 ∷ []

-- ---- runs

-- 1 is performed, and its answer lost: a probe finds it running, a later one finished, with the kept answer behind, which is shown once though it arrives twice; it is
-- acknowledged, and then unknown; meanwhile 6 stops another invoke, but no probe; wrong insides are mistypedArgument
abbrev pub fetching : List Event
fetching =
    asks 1 seven three ∷ hears 1 seven three
    ∷ asks 2 probe_code about_one ∷ hears 2 probe_code about_one ∷ gets 2 probe_code (enumerated 0)
    ∷ give_result 1 zero02
    ∷ asks 3 seven three
    ∷ asks 4 probe_code about_open ∷ hears 4 probe_code about_open ∷ gets 4 probe_code (enumerated 1) ∷ gets 1 seven zero02 ∷ gets 1 seven zero02
    ∷ asks 5 acknowledge_code one02 ∷ hears 5 acknowledge_code one02 ∷ gets 5 acknowledge_code (enumerated 0)
    ∷ asks 6 probe_code about_one ∷ hears 6 probe_code about_one ∷ gets 6 probe_code (enumerated 2)
    ∷ asks 7 acknowledge_code one02 ∷ hears 7 acknowledge_code one02 ∷ gets 7 acknowledge_code (enumerated 1)
    ∷ asks 8 probe_code about_null ∷ hears 8 probe_code about_null
    ∷ asks 9 acknowledge_code long02 ∷ hears 9 acknowledge_code long02
    ∷ []

-- eleven octets lent where the table lists probe: a live id's answer is refused
abbrev cramped : List Event
cramped = asks 1 seven three ∷ hears 1 seven three ∷ give_result 1 zero02 ∷ at kiosk (receive (encode_result 1 seven (Some zero02)) 11) ∷ []

-- the Invoke arrives again behind its answer: it is accepted, the kept answer goes, and a probe finds it running
abbrev repeated : List Event
repeated =
    asks 1 seven three ∷ hears 1 seven three ∷ give_result 1 zero02 ∷ hears 1 seven three
    ∷ asks 2 probe_code about_one ∷ hears 2 probe_code about_one ∷ gets 2 probe_code (enumerated 0)
    ∷ []

-- an id used for two probes: the repeat of the first reply is taken for the second's
abbrev reprobed : List Event
reprobed =
    asks 1 seven three ∷ hears 1 seven three
    ∷ asks 2 probe_code about_one ∷ hears 2 probe_code about_one ∷ gets 2 probe_code (enumerated 0)
    ∷ asks 2 probe_code about_one ∷ gets 2 probe_code (enumerated 0)
    ∷ []

-- the kiosk is probed: it answers in the same way, and shows nothing
abbrev asked_back : List Event
asked_back =
    at controller (invoke 1 seven None three 100)
    ∷ at kiosk (receive (encode_invoke 1 None seven (Some three)) 528)
    ∷ at kiosk (result 1 zero02 100)
    ∷ at controller (invoke 2 probe_code None about_one 100)
    ∷ at kiosk (receive (encode_invoke 2 None probe_code (Some about_one)) 528)
    ∷ at controller (receive (encode_result 2 probe_code (Some (enumerated 1))) 528)
    ∷ at controller (receive (encode_result 1 seven (Some zero02)) 528)
    ∷ []

-- a table with probe and no acknowledge
abbrev partnerless : List Event
partnerless = asks 1 seven three ∷ []

abbrev pub fetches : List Run
fetches =
    record { at_kiosk = table_f; at_controller = table_f; events = fetching }
    ∷ record { at_kiosk = table_f; at_controller = table_f; events = cramped }
    ∷ record { at_kiosk = table_f; at_controller = table_f; events = repeated }
    ∷ record { at_kiosk = table_f; at_controller = table_f; events = reprobed }
    ∷ record { at_kiosk = table_f; at_controller = table_f; events = asked_back }
    ∷ record { at_kiosk = table_q; at_controller = table_q; events = partnerless }
    ∷ []

abbrev pub fetched : List Tells
fetched =
    record {
      refusals =
          None ∷ None
          ∷ None ∷ None ∷ None
          ∷ None
          ∷ Some (plain 6)
          ∷ None ∷ None ∷ None ∷ None ∷ Some (rejecting (Some 1) 0x82 0)
          ∷ None ∷ None ∷ None
          ∷ None ∷ None ∷ None
          ∷ None ∷ None ∷ None
          ∷ None ∷ Some (rejecting (Some 8) 0x81 2)
          ∷ None ∷ Some (rejecting (Some 9) 0x81 2)
          ∷ [];
      shown = 2 ∷ 4 ∷ 1 ∷ 5 ∷ 6 ∷ 7 ∷ [];
    }
    ∷ record { refusals = None ∷ None ∷ None ∷ Some (plain 2) ∷ []; shown = [] }
    ∷ record { refusals = None ∷ None ∷ None ∷ None ∷ None ∷ None ∷ None ∷ []; shown = 2 ∷ [] }
    ∷ record { refusals = None ∷ None ∷ None ∷ None ∷ None ∷ None ∷ None ∷ []; shown = 2 ∷ 2 ∷ [] }
    ∷ record { refusals = None ∷ None ∷ None ∷ None ∷ None ∷ None ∷ None ∷ []; shown = [] }
    ∷ record { refusals = Some (plain 1) ∷ []; shown = [] }
    ∷ []
