-- The marked examples P1 to P12 and their table T: 'Marked examples'.
use Rattle.std.specs.Prelude.{ℕ, ◌≡◌, List, [], ◌∷◌, map, Option, Some, None}
use Rattle.codes.specs.declared.Code.{Code}
use Rattle.codes.specs.declared.Code.TheVariants.{Local}
use Rattle.records.specs.declared.Record.{Record}
use Rattle.records.specs.State.{add_own, add_peer}
use Rattle.records.specs.Held.{Held, fresh_held, in_state}
use Rattle.protocol.specs.Call.{Call, receive, invoke, resulted, erred, plain, rejecting, Answer, accepted, refused, octets_by, held_after}
use Rattle.protocol.specs.Check.{own_records, peer_records}
use Rattle.protocol.specs.Perform.{perform}

-- table T, 34 octets
abbrev pub table_t : List ℕ
table_t =
    0x00 ∷ 0x01 ∷ 0x00 ∷ 0x10 ∷ 0x00 ∷ 0x01 ∷ 0x00 ∷ 0x18 ∷ 0x00 ∷ 0x01 ∷ 0x00 ∷ 0x1E ∷ 0x00 ∷ 0x00 ∷ 0x00 ∷ 0x22
    ∷ 0x00 ∷ 0x00 ∷ 0x00 ∷ 0x07 ∷ 0x02 ∷ 0x02 ∷ 0x02 ∷ 0x00
    ∷ 0x00 ∷ 0x00 ∷ 0x00 ∷ 0x01 ∷ 0x00 ∷ 0x00
    ∷ 0x00 ∷ 0x00 ∷ 0x00 ∷ 0x00
    ∷ []

abbrev seven : Code
seven = Local 7

-- own record (5, 7) is live
abbrev own_five : Held
own_five = in_state fresh_held (add_own fresh_held.state (record { 0 = 5 }) seven)

-- peer record 5 is live
abbrev peer_five : Held
peer_five = in_state fresh_held (add_peer fresh_held.state (record { 0 = 5 }) seven)

abbrev five : List Record
five = record { id = 5; code = seven } ∷ []

-- a call on a state: its answer, the own and the peer records afterwards, and the octets that it wrote
pub record Example : Type 0 where
  pub state : Held
  pub call : Call
  pub answer : Answer
  pub owns : List Record
  pub peers : List Record
  pub writes : List ℕ

-- receive with own record (5, 7) live
abbrev received : List ℕ → Answer → List Record → List ℕ → Example
received x a l w = record { state = own_five; call = receive x 11; answer = a; owns = l; peers = []; writes = w }

-- refused with 18: the records stay, and the Reject is written
abbrev rejected : List ℕ → Option ℕ → ℕ → ℕ → List ℕ → Example
rejected x i kind p w = received x (refused (rejecting i kind p)) five w

abbrev invoke_apdu : List ℕ
invoke_apdu = 0xA1 ∷ 0x09 ∷ 0x02 ∷ 0x01 ∷ 0x05 ∷ 0x02 ∷ 0x01 ∷ 0x07 ∷ 0x02 ∷ 0x01 ∷ 0x03 ∷ []

abbrev pub examples : List Example
examples =
    -- P1
    record {
      state = fresh_held;
      call = invoke 5 seven None (0x02 ∷ 0x01 ∷ 0x03 ∷ []) 11;
      answer = accepted None own_five (invoke_apdu ∷ []);
      owns = five;
      peers = [];
      writes = invoke_apdu;
    }
    -- P2: result, value 02 01 00, the last three of the 13 octets
    ∷ received (0xA2 ∷ 0x0B ∷ 0x02 ∷ 0x01 ∷ 0x05 ∷ 0x30 ∷ 0x06 ∷ 0x02 ∷ 0x01 ∷ 0x07 ∷ 0x02 ∷ 0x01 ∷ 0x00 ∷ [])
    (accepted (Some (resulted 5 (Some (record { code = Some seven; value = record { at = 10; end = 13; octets = 0x02 ∷ 0x01 ∷ 0x00 ∷ [] } })) seven)) fresh_held []) [] []
    -- P3: error 1, no value
    ∷ received (0xA3 ∷ 0x06 ∷ 0x02 ∷ 0x01 ∷ 0x05 ∷ 0x02 ∷ 0x01 ∷ 0x01 ∷ [])
    (accepted (Some (erred 5 (Local 1) None seven)) fresh_held []) [] []
    -- P4
    ∷ rejected (0xA2 ∷ 0x03 ∷ 0x02 ∷ 0x01 ∷ 0x05 ∷ []) (Some 5) 0x82 2 (0xA4 ∷ 0x06 ∷ 0x02 ∷ 0x01 ∷ 0x05 ∷ 0x82 ∷ 0x01 ∷ 0x02 ∷ [])
    -- P5
    ∷ rejected (0xA2 ∷ 0x03 ∷ 0x02 ∷ 0x01 ∷ 0x06 ∷ []) (Some 6) 0x82 0 (0xA4 ∷ 0x06 ∷ 0x02 ∷ 0x01 ∷ 0x06 ∷ 0x82 ∷ 0x01 ∷ 0x00 ∷ [])
    -- P6
    ∷ rejected [] None 0x80 2 (0xA4 ∷ 0x05 ∷ 0x05 ∷ 0x00 ∷ 0x80 ∷ 0x01 ∷ 0x02 ∷ [])
    -- P7
    ∷ rejected (0xA5 ∷ 0x00 ∷ []) None 0x80 0 (0xA4 ∷ 0x05 ∷ 0x05 ∷ 0x00 ∷ 0x80 ∷ 0x01 ∷ 0x00 ∷ [])
    -- P8
    ∷ received (0xA4 ∷ 0x00 ∷ []) (refused (plain 17)) five []
    -- P9
    ∷ record {
      state = peer_five;
      call = receive invoke_apdu 11;
      answer = refused (rejecting (Some 5) 0x81 0);
      owns = [];
      peers = five;
      writes = 0xA4 ∷ 0x06 ∷ 0x02 ∷ 0x01 ∷ 0x05 ∷ 0x81 ∷ 0x01 ∷ 0x00 ∷ [];
    }
    -- P10
    ∷ rejected (0xA2 ∷ 0x04 ∷ 0x02 ∷ 0x02 ∷ 0xFF ∷ 0xFF ∷ []) None 0x80 2 (0xA4 ∷ 0x05 ∷ 0x05 ∷ 0x00 ∷ 0x80 ∷ 0x01 ∷ 0x02 ∷ [])
    -- P11
    ∷ rejected (0xA2 ∷ 0x07 ∷ 0x02 ∷ 0x05 ∷ 0x00 ∷ 0x80 ∷ 0x00 ∷ 0x00 ∷ 0x00 ∷ []) None 0x80 1 (0xA4 ∷ 0x05 ∷ 0x05 ∷ 0x00 ∷ 0x80 ∷ 0x01 ∷ 0x01 ∷ [])
    -- P12
    ∷ rejected (0xA2 ∷ 0x06 ∷ 0x02 ∷ 0x04 ∷ 0x80 ∷ 0x00 ∷ 0x00 ∷ 0x00 ∷ []) (Some 0x8000_0000) 0x82 0
    (0xA4 ∷ 0x09 ∷ 0x02 ∷ 0x04 ∷ 0x80 ∷ 0x00 ∷ 0x00 ∷ 0x00 ∷ 0x82 ∷ 0x01 ∷ 0x00 ∷ [])
    ∷ []

-- the example as the written definitions have it
abbrev pub performed : Example → Example
performed e = record {
  state = e.state;
  call = e.call;
  answer = perform table_t e.state e.call;
  owns = own_records (held_after e.state (perform table_t e.state e.call));
  peers = peer_records (held_after e.state (perform table_t e.state e.call));
  writes = octets_by (perform table_t e.state e.call);
}

-- P1 to P12 hold of the written definitions
abbrev pub MarkedHold : Type 0
MarkedHold = map performed examples ≡ examples
