-- A capture played from the fresh state (docs/RULES.md, 'A day's capture, replayed').
use Rattle.std.specs.Prelude.{ℕ, zero, suc, ◌+◌, Bool, true, false, cond, ◌&&◌, List, [], ◌∷◌, eqb, Option, Some, None}
use Rattle.records.specs.Held.{Held, fresh_held}
use Rattle.records.specs.Limits.{octets}
use Rattle.optable.specs.Validity.{valid}
use Rattle.apdu.specs.Field.{Part}
use Rattle.apdu.specs.Parse.{body_value, Apdu, badly_structured, unrecognized, mistyped, parse, invoke as Invoke, result as Result, error as Error, reject as Reject}
use Rattle.protocol.specs.Call.{own, peer, Call, receive, invoke, result, error, reject, forget, Answer, accepted, refused, written_by, end_to_end, held_after}
use Rattle.protocol.specs.Perform.{perform}
use Rattle.capture.specs.declared.kind.Kind.{Kind}
use Rattle.capture.specs.declared.kind.Kind.TheVariants.{Received, Sent, Forget}
use Rattle.capture.specs.declared.side.Side.{Side}
use Rattle.capture.specs.declared.side.Side.TheVariants.{Own, Peer, Other}
use Rattle.capture.specs.Format.{count, valid as valid_capture}
use Rattle.capture.specs.Entry.{kind_at, octets_at, side_of, id_of}

-- ---- the call that an entry fits, with room for any APDU

-- a request is given its value, empty for none
abbrev pub value_octets : Option Part → List ℕ
value_octets None = []
value_octets (Some v) = v.octets

-- the request that would write a sent APDU: a result's code is no argument of it, a Reject is a user's only with 81 and an id; what no request can write, as a code of over four octets or a name of over 16, fits no call
unfoldable pub request_of : Apdu → Option Call
request_of (badly_structured p) = None
request_of unrecognized = None
request_of (mistyped i) = None
request_of (Invoke i l (Some c) v) = Some (invoke i c l (value_octets v) octets)
request_of (Invoke i l None v) = None
request_of (Result i b) = Some (result i (value_octets (body_value b)) octets)
request_of (Error i (Some e) v) = Some (error i e (value_octets v) octets)
request_of (Error i None v) = None
request_of (Reject None kind p) = None
request_of (Reject (Some i) kind p) = cond (eqb kind 0x81) (Some (reject i p octets)) None

-- a forget names a side and an id; with any other side it fits no call
abbrev pub forget_by : Side → ℕ → Option Call
forget_by Own i = Some (forget own i)
forget_by Peer i = Some (forget peer i)
forget_by (Other n) i = None

unfoldable pub forget_of : List ℕ → Option Call
forget_of x = forget_by (side_of x) (id_of x)

-- ---- one entry played

abbrev pub is_sent : Option Kind → Bool
is_sent (Some Received) = false
is_sent (Some Sent) = true
is_sent (Some Forget) = false
is_sent None = false

unfoldable pub same_octets : List ℕ → List ℕ → Bool
same_octets [] [] = true
same_octets [] (b ∷ y) = false
same_octets (a ∷ x) [] = false
same_octets (a ∷ x) (b ∷ y) = eqb a b && same_octets x y

-- an entry differs, or leaves what the end holds and the APDUs that receive wrote, each of which must stand next
pub data Step : Type 0 where
  differs : Step
  goes : Held → List (List ℕ) → Step

-- a received entry does not differ by itself: 17 goes by, 18 writes its Reject, and a probe or an acknowledge is answered
abbrev pub received : Held → Answer → Step
received s a = goes (held_after s a) (written_by a)

-- a request or forget must be accepted and write just x
unfoldable pub agreed : List ℕ → Answer → Step
agreed x (refused r) = differs
agreed x (accepted i s l) = cond (same_octets (end_to_end l) x) (goes s []) differs

-- what fits no call differs
unfoldable pub asked : List ℕ → Held → List ℕ → Option Call → Step
asked T s x None = differs
asked T s x (Some c) = agreed x (perform T s c)

-- a forget writes nothing
unfoldable pub played_as : List ℕ → Held → Option Kind → List ℕ → Step
played_as T s (Some Received) x = received s (perform T s (receive x octets))
played_as T s (Some Sent) x = asked T s x (request_of (parse x))
played_as T s (Some Forget) x = asked T s [] (forget_of x)
played_as T s None x = differs

-- where APDUs are awaited, the next entry must have been sent and be the first of them; it is not played
unfoldable pub play_one : List ℕ → Held → List (List ℕ) → Option Kind → List ℕ → Step
play_one T s [] kind x = played_as T s kind x
play_one T s (w ∷ l) kind x = cond (is_sent kind && same_octets w x) (goes s l) differs

-- ---- a whole capture

-- what the program writes: entries 3 agree; entry 1 differs; refused 20
pub data Verdict : Type 0 where
  agree : ℕ → Verdict
  differs_at : ℕ → Verdict
  refused_with : ℕ → Verdict

-- no APDU may be awaited behind the last of k entries
abbrev pub at_end : ℕ → List (List ℕ) → Verdict
at_end k [] = agree k
at_end k (w ∷ l) = differs_at k

-- entry k differs, or what is behind it decides
abbrev pub behind_step : (Held → List (List ℕ) → Verdict) → ℕ → Step → Verdict
behind_step more k differs = differs_at k
behind_step more k (goes s l) = more s l

-- n entries of the capture t from number k on, with what the end holds there and the APDUs that are awaited
unfoldable pub play : List ℕ → List ℕ → ℕ → ℕ → Held → List (List ℕ) → Verdict
play T t zero k s l = at_end k l
play T t (suc n) k s l = behind_step (λ s' l'. play T t n (k + 1) s' l') k (play_one T s l (kind_at t k) (octets_at t k))

-- the table is checked first, 1, then the whole capture, 20, and only then is an entry played
unfoldable pub replay : List ℕ → List ℕ → Verdict
replay T t = cond (valid T) (cond (valid_capture t) (play T t (count t) 0 fresh_held []) (refused_with 20)) (refused_with 1)
