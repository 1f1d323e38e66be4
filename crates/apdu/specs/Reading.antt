-- What the code's answers say, with their places read in the lent octets s.
use Rattle.std.specs.Prelude.{ℕ, List, Option, Some, None, option_map}
use Rattle.records.specs.declared.OwnId.{OwnId}
use Rattle.records.specs.declared.PeerId.{PeerId}
use Rattle.apdu.specs.declared.Span.{Span}
use Rattle.apdu.specs.declared.Body.{Body}
use Rattle.apdu.specs.declared.Parsed.{Parsed}
use Rattle.apdu.specs.declared.Parsed.TheVariants.{BadlyStructured, Unrecognized, Mistyped, Invoke, Result, Error, InvokeReject, ResultReject, ErrorReject, GeneralReject}
use Rattle.apdu.specs.Field.{Part, part_of}
use Rattle.apdu.specs.Parse.{CodedValue, Apdu, badly_structured, unrecognized, mistyped, invoke, result, error, reject}

-- ---- linked ids

abbrev pub read_own_link : Option OwnId → Option ℕ
read_own_link l = option_map (λ i. i.0) l

abbrev pub read_peer_link : Option PeerId → Option ℕ
read_peer_link l = option_map (λ i. i.0) l

-- ---- values

-- a span, and the octets there
abbrev pub read_span : List ℕ → Span → Part
read_span s p = part_of s p.at p.end

-- a value, or none
unfoldable pub read_value : List ℕ → Option Span → Option Part
read_value s v = option_map (read_span s) v

-- a result's code and value, or none
unfoldable pub read_body : List ℕ → Option Body → Option CodedValue
read_body s (Some b) = Some (record { code = b.code; value = read_span s b.value })
read_body s None = None

-- ---- what parse answers

unfoldable pub read_parsed : List ℕ → Parsed → Apdu
read_parsed s (BadlyStructured at) = badly_structured at
read_parsed s Unrecognized = unrecognized
read_parsed s (Mistyped i) = mistyped i
read_parsed s (Invoke i l c v) = invoke i.0 (read_own_link l) c (read_value s v)
read_parsed s (Result i b) = result i.0 (read_body s b)
read_parsed s (Error i c v) = error i.0 c (read_value s v)
read_parsed s (GeneralReject i p) = reject i 0x80 p
read_parsed s (InvokeReject i p) = reject (Some i.0) 0x81 p
read_parsed s (ResultReject i p) = reject (Some i.0) 0x82 p
read_parsed s (ErrorReject i p) = reject (Some i.0) 0x83 p
