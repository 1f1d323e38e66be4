-- What the code's answers say in the rules' numbers and values, and what a call promises of them.
use Rattle.std.specs.Prelude.{ℕ, ◌≡◌, List, ◌++◌, length, drop, Some, None, Option, Result, Ok, Err, option_map}
use Rattle.records.specs.Held.{Held}
use Rattle.apdu.specs.Problem.{kind_octet}
use Rattle.apdu.specs.Reading.{read_own_link, read_value, read_body}
use Rattle.protocol.specs.declared.Invocation.{Invocation}
use Rattle.protocol.specs.declared.Invocation.TheVariants.{Own, Peer}
use Rattle.protocol.specs.declared.Indication.{Indication as Indicated}
use Rattle.protocol.specs.declared.Indication.TheVariants.{Invoke, Result as Resulted, Error, InvokeRejected, ResultRejected, ErrorRejected, GeneralReject}
use Rattle.protocol.specs.declared.Refusal.{Refusal as Reason}
use Rattle.protocol.specs.declared.Refusal.TheVariants.{InvalidTable, ShortOutput, LongInput, UnknownOperation, IdInUse, SynchronousLive, UnknownLinkedId, NotAChild, MalformedValue, MistypedValue, NoRecord, WrongClass, UnlistedError, RecordsFull, LargeApdu, WrongProblem, UnacceptableReject, Rejected, UnsoundState, TrailingOctets, IdResting}
use Rattle.apdu.specs.declared.problem.Problem.{Problem}
use Rattle.protocol.specs.declared.Received.{Received}
use Rattle.protocol.specs.declared.Requested.{Requested}
use Rattle.protocol.specs.Call.{Call, own, peer, forget, Indication, invoked, resulted, erred, rejected_u, rejected_p, Refusal, plain, rejecting, Answer, accepted, refused, written_by, octets_by, place_named, held_after}

-- ---- ids

-- the call that forgets an invocation
abbrev pub forgetting : Invocation → Call
forgetting (Own i) = forget own i.0
forgetting (Peer i) = forget peer i.0

-- ---- indications, with their places read in the lent octets x

unfoldable pub read_indication : List ℕ → Indicated → Indication
read_indication x (Invoke i l c v) = invoked i.0 (read_own_link l) c (read_value x v)
read_indication x (Resulted i b c) = resulted i.0 (read_body x b) c
read_indication x (Error i e v c) = erred i.0 e (read_value x v) c
read_indication x (InvokeRejected i p) = rejected_u i.0 0x81 p
read_indication x (ResultRejected i p) = rejected_u i.0 0x82 p
read_indication x (ErrorRejected i p) = rejected_u i.0 0x83 p
read_indication x (GeneralReject i p) = rejected_p i p

-- ---- refusals: the numbers of 'The table of refusals'

unfoldable pub read_refusal : Reason → Refusal
read_refusal InvalidTable = plain 1
read_refusal ShortOutput = plain 2
read_refusal LongInput = plain 3
read_refusal UnknownOperation = plain 4
read_refusal IdInUse = plain 5
read_refusal SynchronousLive = plain 6
read_refusal UnknownLinkedId = plain 7
read_refusal NotAChild = plain 8
read_refusal MalformedValue = plain 9
read_refusal MistypedValue = plain 10
read_refusal NoRecord = plain 11
read_refusal WrongClass = plain 12
read_refusal UnlistedError = plain 13
read_refusal RecordsFull = plain 14
read_refusal LargeApdu = plain 15
read_refusal WrongProblem = plain 16
read_refusal UnacceptableReject = plain 17
read_refusal (Rejected i kind p) = rejecting i (kind_octet kind) p
read_refusal UnsoundState = plain 19
read_refusal TrailingOctets = plain 21
read_refusal IdResting = plain 22

-- 18 also returns the problem's kind and number; another refusal has 0, 0
abbrev pub refusal_problem : Refusal → ℕ × ℕ
refusal_problem (plain n) = (0, 0)
refusal_problem (rejecting i kind problem) = (kind, problem)

abbrev pub problem_numbers : Option Problem → ℕ × ℕ
problem_numbers None = (0, 0)
problem_numbers (Some p) = (kind_octet p.kind, p.number)

-- ---- answers: with what the end then holds and the APDUs written beside

unfoldable pub read_reception : List ℕ → Result (Option Indicated) Reason → Held → List (List ℕ) → Answer
read_reception x (Ok i) s w = accepted (option_map (read_indication x) i) s w
read_reception x (Err r) s w = refused (read_refusal r)

unfoldable pub read_outcome : Result (Unit {0}) Reason → Held → List (List ℕ) → Answer
read_outcome (Ok u) s w = accepted None s w
read_outcome (Err r) s w = refused (read_refusal r)

-- ---- promises: the answer a is given, with the state and the store after it and the place that it names in the octets x that the call was given,
-- and the output is what a writes, then what stood behind

pub record Written (a : Answer) (before after : List ℕ) (count : ℕ) : Type 0 where
  pub octets : after ≡ octets_by a ++ drop (length (octets_by a)) before
  pub counted : count ≡ length (octets_by a)

pub record ReceivePromise (a : Answer) (s : Held) (store x before after : List ℕ) (r : Received) : Type 0 where
  pub answers : read_reception x r.reception (held_after s a) (written_by a) ≡ a
  pub holds : record { state = r.state; store = store } ≡ held_after s a
  pub written : Written a before after r.written
  pub place : r.place ≡ place_named x a

pub record RequestPromise (a : Answer) (s : Held) (store x before after : List ℕ) (r : Requested) : Type 0 where
  pub answers : read_outcome r.outcome (held_after s a) (written_by a) ≡ a
  pub holds : record { state = r.state; store = store } ≡ held_after s a
  pub written : Written a before after r.written
  pub place : r.place ≡ place_named x a
