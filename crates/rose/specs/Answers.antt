-- What a call answers in the code's words.
use Rattle.std.specs.Prelude.{ℕ, ◌≡◌, cond, List, length, Result, Ok, Err}
use Rattle.records.specs.declared.State.{State}
use Rattle.records.specs.Held.{Held}
use Rattle.records.specs.Limits.{levels}
use Rattle.ber.specs.Element.{place}
use Rattle.protocol.specs.declared.Refusal.{Refusal as Reason}
use Rattle.protocol.specs.declared.Requested.{Requested}
use Rattle.rose.specs.declared.receiving.Told.{Told}
use Rattle.protocol.specs.Call.{Call, receive, refused, names_place}
use Rattle.protocol.specs.Perform.{perform}
use Rattle.protocol.specs.Reading.{read_refusal, RequestPromise, ReceivePromise}

-- p is where the value is at fault, if it is
abbrev pub request_refused : State → Reason → ℕ → Requested
request_refused s why p = record { state = s; place = cond (names_place (read_refusal why)) p 0; outcome = Err why; written = 0 }

abbrev pub request_accepted : State → ℕ → Requested
request_accepted s n = record { state = s; place = 0; outcome = Ok tt; written = n }

-- so many octets are written, or the call is refused, the value being at fault at the place p, if it is
abbrev pub requested : State → ℕ → Result ℕ Reason → Requested
requested s p (Ok n) = request_accepted s n
requested s p (Err why) = request_refused s why p

-- the call c of the end s, with the octets x, is answered: t is the end then
abbrev pub Requests : List ℕ → Held → Call → List ℕ → Held → List ℕ → List ℕ → Result ℕ Reason → Type 0
Requests T s c x t before after r = RequestPromise (perform T s c) s t.store x before after (requested t.state (place levels x) r)

-- the octets x are received: what is told, or why they are refused, with nothing changed
abbrev pub Takes : List ℕ → Held → List ℕ → Held → List ℕ → List ℕ → Result Told Reason → Type 0
Takes T s x t before after (Ok r) = ReceivePromise (perform T s (receive x (length before))) s t.store x before after (record { state = t.state; place = r.place; reception = r.reception; written = r.written })
Takes T s x t before after (Err why) = (refused (read_refusal why) ≡ perform T s (receive x (length before))) × ((t ≡ s) × (after ≡ before))
