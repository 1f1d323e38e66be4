-- What a receive answers once its checks are made.
use Prim.Native.Nat.{ℕ, ◌≤◌}
use mathlib.Core.Path.{◌≡◌, refl, sym, ap, ◌∙◌}
use mathlib.Core.Bool.{true, cond}
use mathlib.Core.List.{List, []}
use lib.ListN.{length}
use borrow.Author.Tests.{not-false}
use Rattle.std.specs.Prelude.{Result, Ok, Err, Option, Some, None}
use Rattle.records.specs.declared.State.{State}
use Rattle.records.specs.Held.{Held, sound_held}
use Rattle.records.specs.Limits.{octets}
use Rattle.apdu.specs.Parse.{parse}
use Rattle.apdu.specs.declared.problem.ProblemKind.{ProblemKind}
use Rattle.protocol.specs.declared.Refusal.{Refusal as Reason}
use Rattle.protocol.specs.declared.Refusal.TheVariants.{InvalidTable, ShortOutput, LongInput, UnknownOperation, IdInUse, SynchronousLive, UnknownLinkedId, NotAChild, MalformedValue, MistypedValue, NoRecord, WrongClass, UnlistedError, RecordsFull, LargeApdu, WrongProblem, UnacceptableReject, Rejected, UnsoundState, TrailingOctets, IdResting}
use Rattle.protocol.specs.Call.{receive, Indication as Indicates, accepted, is_refused, refused, Answer, end_to_end, reject_written, place_named, names_place}
use Rattle.protocol.specs.Check.{shared}
use Rattle.protocol.specs.Perform.{later_checks, checks, done, perform}
use Rattle.protocol.specs.Reading.{read_refusal, read_indication, read_reception, ReceivePromise}
use Rattle.protocol.proofs.Checks.{passed, accepted_passes}
use Rattle.protocol.proofs.Room.{receive_fits}
use Rattle.rose.specs.declared.change.Change.{Change}
use Rattle.rose.specs.declared.reply.Reply.{Reply}
use Rattle.protocol.specs.declared.Indication.{Indication}
use Rattle.rose.specs.declared.receiving.Told.{Told}
use Rattle.rose.specs.declared.arrival.Arrival.{Arrival}
use Rattle.rose.specs.declared.arrival.Arrival.TheVariants.{Indicated, Answered}
use Rattle.rose.specs.Answers.{Takes}
use Rattle.rose.specs.Arrival.{told}
use Rattle.rose.specs.Changes.{after}
use Rattle.rose.specs.Replies.{replied}
use Rattle.rose.specs.Faults.{fault_in}
use Rattle.rose.specs.Steps.{first, AllWritten}
use Rattle.rose.proofs.CheckLaws.{some_answers, first_some}
use Rattle.rose.proofs.Faults.{refusal_place}

-- ---- what is written, and what the end holds

-- only an 18 writes a Reject
pub no_reject : (why : Reason) → ((i : Option ℕ) (kind : ProblemKind) (p : ℕ) → why ≡ Rejected i kind p → ⊥) → reject_written (read_refusal why) ≡ []
unfolding read_refusal
no_reject InvalidTable h = refl
no_reject ShortOutput h = refl
no_reject LongInput h = refl
no_reject UnknownOperation h = refl
no_reject IdInUse h = refl
no_reject SynchronousLive h = refl
no_reject UnknownLinkedId h = refl
no_reject NotAChild h = refl
no_reject MalformedValue h = refl
no_reject MistypedValue h = refl
no_reject NoRecord h = refl
no_reject WrongClass h = refl
no_reject UnlistedError h = refl
no_reject RecordsFull h = refl
no_reject LargeApdu h = refl
no_reject WrongProblem h = refl
no_reject UnacceptableReject h = refl
no_reject (Rejected i kind p) h = absurd (h i kind p refl)
no_reject UnsoundState h = refl
no_reject TrailingOctets h = refl
no_reject IdResting h = refl

module _ (T : List ℕ) (s : Held) (x before : List ℕ) where
  abbrev answered : Answer
  answered = perform T s (receive x (length before))

  -- t and now are the end and the output, which are as they were
  pub receive_refused : (why : Reason) (t : Held) (now : List ℕ) → (refused (read_refusal why) ≡ answered) × ((t ≡ s) × (now ≡ before)) → (p : ℕ) → (length x ≤ octets → p ≡ fault_in (parse x)) → (after : List ℕ) (n : ℕ) → AllWritten (reject_written (read_refusal why)) now after n
      → (q : ℕ) → q ≡ cond (names_place (read_refusal why)) p 0 → ReceivePromise answered s t.store x before after (record { state = t.state; place = q; reception = Err why; written = n })
  unfolding read_reception
  receive_refused why t now k p f after n w q g =
      let e = k.0 in
      let v : AllWritten (reject_written (read_refusal why)) before after n = rw k.1.1 at w in
      let fits : length (end_to_end (reject_written (read_refusal why))) ≤ length before = rw (← e) at (receive_fits T s x (length before)) in
      let named = g ∙ refusal_place T s x (length before) p f (read_refusal why) e in
      rw (k.1.0, ← e) (record { answers = refl; holds = refl; written = record { octets = v.octets fits; counted = v.counted fits }; place = named })

  pub takes_refused : (why : Reason) → refused (read_refusal why) ≡ answered → (r : Result Told Reason) → r ≡ Err why → Takes T s x s before before r
  takes_refused why h r e = rw e (h, (refl, refl))

  -- by 19 or 1
  pub takes_first : (why : Reason) → Some (read_refusal why) ≡ first (shared T s) → (r : Result Told Reason) → r ≡ Err why → Takes T s x s before before r
  unfolding perform
  takes_first why h =
      let c = receive x (length before) in
      takes_refused why (sym (some_answers (checks T s c) (done T s c) (read_refusal why) (sym (first_some (shared T s) (later_checks T s c) (read_refusal why) h))))

  -- what is accepted was sound
  accepted_sound : (i : Option Indicates) (t : Held) (l : List (List ℕ)) → accepted i t l ≡ answered → sound_held s ≡ true
  unfolding perform
  accepted_sound i t l e =
      let cs = checks T s (receive x (length before)) in
      let pass = accepted_passes cs (done T s (receive x (length before))) (ap is_refused (sym e)) in
      not-false (sound_held s) (passed cs pass 19)

  module _ (g : Change) (t : State) (store : List ℕ) (k : sound_held s ≡ true → record { state = t; store = store } ≡ after s g) where
    pub receive_indicated : (i : Indication) (a : Arrival) → a ≡ Indicated i g → told x s (Ok a) ≡ answered → ReceivePromise answered s store x before before (record { state = t; place = 0; reception = Ok (Some i); written = 0 })
    unfolding read_reception place_named
    receive_indicated i a is told_is =
        let e : told x s (Ok (Indicated i g)) ≡ answered = rw is at told_is in
        let held_is = k (accepted_sound (Some (read_indication x i)) (after s g) [] e) in
        rw (← e) (record { answers = refl; holds = held_is; written = record { octets = refl; counted = refl }; place = refl })

    pub receive_answered : (r : Reply) (a : Arrival) → a ≡ Answered r g → told x s (Ok a) ≡ answered → (now : List ℕ) (n : ℕ) → AllWritten (replied s.store r) before now n → ReceivePromise answered s store x before now (record { state = t; place = 0; reception = Ok None; written = n })
    unfolding read_reception place_named
    receive_answered r a is told_is now n w =
        let e : told x s (Ok (Answered r g)) ≡ answered = rw is at told_is in
        let held_is = k (accepted_sound None (after s g) (replied s.store r) e) in
        let fits : length (end_to_end (replied s.store r)) ≤ length before = rw (← e) at (receive_fits T s x (length before)) in
        rw (← e) (record { answers = refl; holds = held_is; written = record { octets = w.octets fits; counted = w.counted fits }; place = refl })
