-- An Invoke that the controller accepts keeps what the book says: what is then heard, and what receive answers itself.
use Rattle.std.specs.Prelude.{Option, Some, None}
use Prim.Native.Nat.{ℕ}
use mathlib.Core.Path.{◌≡◌, refl, sym, subst, ap, ◌∙◌}
use mathlib.Core.Bool.{true, cond}
use mathlib.Core.List.Memᴰ.{append_cases as in-cases}
use mathlib.Core.List.Memᴰ.{append_left as in_left}
use mathlib.Core.List.Memᴰ.{append_right as in_right}
use mathlib.Core.List.Memᴰ.{eq_of_singleton as in_one}
use mathlib.Core.List.Memᴰ.{head as here}
use mathlib.Core.List.{List, [], ◌∷◌, ◌++◌, Memᴰ as In}
use mathlib.Core.Logic.{◌⊎◌, inl, inr}
use Rattle.records.specs.declared.Record.{Record}
use Rattle.base.proofs.Tests.{cond_elim}
use Rattle.codes.specs.declared.Code.{Code}
use Rattle.records.specs.Records.{member}
use Rattle.records.specs.Kept.{KeptAnswer, is_kept, kept_apdu, kept_without, view_kept, pack_kept, pack_store}
use Rattle.records.specs.Held.{Held, kept_answers, drop_answer}
use Rattle.records.proofs.KeptLaws.{in_kept}
use Rattle.records.proofs.StoreLaws.{SoundStore}
use Rattle.optable.specs.declared.Service.{Service}
use Rattle.optable.specs.declared.Service.TheVariants.{Probe, Acknowledge, Ordinary}
use Rattle.optable.specs.Service.{probe_code, service_of, answers_itself}
use Rattle.optable.specs.Lookup.{operation_of, result_of}
use Rattle.optable.specs.Value.{value_right}
use Rattle.optable.proofs.ServiceLaws.{code_of_service, service_code}
use Rattle.optable.specs.Validity.{valid}
use Rattle.optable.proofs.NameLaws.{listed_code_right}
use Rattle.apdu.specs.Field.{Part, octets_of}
use Rattle.apdu.specs.Parse.{Apdu, parse, invoke as Invoke, result as Result}
use Rattle.apdu.proofs.FieldRoundTrip.{last_part}
use Rattle.apdu.proofs.RoundTrip.{body_of}
use Rattle.protocol.specs.Call.{receive, accepted}
use Rattle.protocol.specs.Check.{class_in, is_class, is_silent, linked_to, peer_records}
use Rattle.protocol.specs.Receive.{field_code, invoke_checks, with_peer, invoke_done}
use Rattle.protocol.specs.Service.{about, enumerated, reply, probed, acknowledged}
use Rattle.protocol.specs.Book.{last_code, kiosk, controller, at, a_result, wired, Answered, World, hearing_of, value_in, after}
use Rattle.protocol.proofs.Checks.{Pass}
use Rattle.protocol.proofs.Facts.{arrived_invoke, operation_listed}
use Rattle.protocol.proofs.Ids.{in_last, in_member, one_code}
use Rattle.protocol.proofs.Steady.{Steady}
use Rattle.protocol.proofs.Written.{peer_with, kept_beside_peer}
use Rattle.protocol.proofs.Invariant.{Known, IsAnswer, Sayable, Stored, Told, Agrees}
use Rattle.protocol.proofs.Replies.{reply_short, reply_reads, Passes, service_passes}
use Rattle.protocol.proofs.Keeping.{Each, ends_apart, spoken_wired, sent_wired, answer_more, answer_new, sent_more, each_dropped, stored_more, view_dropped, known_heard}

-- ---- what was told stays told

told_more : {N : List ℕ} {heard : List Record} (r : Record) {e : Answered} → Told N heard e → Told N (heard ++ (r ∷ [])) e
told_more r t = record { size = t.size; from = in_left (r ∷ []) t.from; says = t.says }

pub told_added : {N : List ℕ} {heard : List Record} {l : List Answered} (e : Answered) → Told N heard e → ((f : Answered) → In f l → Told N heard f) → (f : Answered) → In f (l ++ (e ∷ [])) → Told N heard f
told_added {N} {heard} {l} e t s f m = go (in-cases l m)
  where
    go : In f l ⊎ In f (e ∷ []) → Told N heard f
    go (inl a) = s f a
    go (inr a) = rw (in_one a) t

-- the answers that stay when one is dropped
stored_gone : {peers : List Record} {answers : List Answered} (s : Held) → SoundStore peers s.state.kept s.store → (i : ℕ) → Stored (kept_answers s) answers → Stored (kept_answers (drop_answer s (record { 0 = i }))) answers
stored_gone {peers} {answers} s h i q = subst (λ (l : List KeptAnswer). Stored l answers) (sym (view_dropped s h.sound.short i)) (each_dropped (IsAnswer answers) i q)

-- answers of the book stay answers
each_more : (answers : List Answered) (e : Answered) (l : List (List ℕ)) → Each (IsAnswer answers) l → Each (Sayable (answers ++ (e ∷ []))) l
each_more answers e [] h = tt
each_more answers e (x ∷ l) h = (inl (answer_more e h.0), each_more answers e l h.1)

module _ (O N : List ℕ) where
  -- an accepted receive that writes nothing: only the peer records, heard and the kept answers may change
  module _ (w : World) (x : List ℕ) (room : ℕ) (p : Apdu) (e : parse x ≡ p) (k : Agrees N w) where
    pub agrees_accepted : (s : Held) → Known (peer_records s) (hearing_of p w.book.heard) w.book.asked
        → ((f : Answered) → In f w.book.given → Told N (hearing_of p w.book.heard) f) → Stored (kept_answers s) w.book.given → Agrees N (after O w (at controller (receive x room)) (accepted None s []))
    agrees_accepted s n t d = record { ours = k.ours; spoken = k.spoken; known = rw e n; sent = k.sent; told = rw e t; stored = d; quiet = k.quiet }

  -- ---- an Invoke

  module _ (valid-N : valid N ≡ true) (w : World) (x : List ℕ) (room i : ℕ) (l : Option ℕ) (c : Option Code) (v : Option Part) (e : parse x ≡ Invoke i l c v) (m : In (wired kiosk x) w.book.wire) (k : Agrees N w) where
    -- what is heard with the Invoke
    abbrev new : Record
    new = record { id = i; code = field_code c }

    abbrev heard' : List Record
    heard' = w.book.heard ++ (new ∷ [])

    asked_new : In new w.book.asked
    asked_new = k.spoken x m i l c v e

    known_new : Known (peer_records w.controller) heard' w.book.asked
    known_new = known_heard new true asked_new k.known

    last_new : In (record { id = i; code = last_code i heard' }) heard'
    last_new = in_last i heard' (in_member new heard' (in_right w.book.heard (here refl)))

    same_new : (d : Code) → field_code c ≡ d → last_code i heard' ≡ d
    same_new d q = one_code w.book.asked k.ours.unique i _ _ (known_new.hears _ last_new) asked_new ∙ q

    -- what counts as given by the caller
    abbrev own_entry : Service → ℕ → Answered
    own_entry q n = record {
      given = record { id = i; operation = last_code i heard'; kind = a_result; error = None; value = value_in (parse (reply i (code_of_service q) n)) };
      apdu = reply i (code_of_service q) n;
    }

    own_told : (q : Service) (n : ℕ) → field_code c ≡ code_of_service q → Passes N (code_of_service q) → Told N heard' (own_entry q n)
    own_told q n same ps =
        let y = reply i (code_of_service q) n in
        let back = reply_reads i q n (k.ours.fits new asked_new).0 in
        let code = same_new (code_of_service q) same in
        let value : value_in (parse y) ≡ Some (enumerated n) = ap value_in back in
        record {
          size = reply_short i q n;
          from = last_new;
          says = inl (record {
            kind = refl;
            error = refl;
            shown = last_part y (Some (enumerated n));
            octets = sym value;
            reads = back ∙ (λ t. Result i (body_of (sym code t) (last_part y (Some (enumerated n)))));
            class = (λ t. is_class 3 5 (class_in N (code t))) ∙ ps.class;
            right = (λ t. value_right (result_of (operation_of N (code t))) (value t)) ∙ ps.right n;
          });
        }

    -- the reply, and behind it answers that were given before
    agrees_replied : (q : Service) (n : ℕ) (rest : List (List ℕ)) (s : Held) → field_code c ≡ code_of_service q → Passes N (code_of_service q) → peer_records s ≡ peer_records w.controller → Stored (kept_answers s) w.book.given
        → Each (IsAnswer w.book.given) rest → Agrees N (after O w (at controller (receive x room)) (accepted None s (reply i (code_of_service q) n ∷ rest)))
    agrees_replied q n rest s code ps same st earlier =
        let y = reply i (code_of_service q) n in
        record {
          ours = k.ours;
          spoken = spoken_wired controller (y ∷ rest) (λ e. ends_apart (sym e)) k.spoken;
          known = rw (e, same) known_new;
          sent = rw e (sent_wired controller (y ∷ rest) (λ _. (inl (answer_new w.book.given (own_entry q n)), each_more w.book.given (own_entry q n) rest earlier)) (sent_more (own_entry q n) k.sent));
          told = rw e (told_added (own_entry q n) (own_told q n code ps) (λ f a. told_more new (k.told f a)));
          stored = rw e (stored_more (own_entry q n) st);
          quiet = k.quiet;
        }

    -- what was invoked passes, where receive answers it
    passing : (q : Service) → service_of (field_code c) ≡ q → answers_itself q ≡ true → Pass (invoke_checks N w.controller i l c v) → Passes N (code_of_service q)
    passing q e a p =
        subst (Passes N) (service_code (field_code c) q e a) (service_passes N (field_code c) q valid-N e a (operation_listed N c (arrived_invoke N w.controller i l c v p).known))

    pub agrees_invoked : Steady N w.controller → (q : Service) → service_of (field_code c) ≡ q → Pass (invoke_checks N w.controller i l c v)
        → Agrees N (after O w (at controller (receive x room)) (invoke_done N w.controller i l (field_code c) v q))
    unfolding invoke_done probed acknowledged
    agrees_invoked s Probe q p =
        let code = service_code (field_code c) Probe q refl in
        let ps = passing Probe q refl p in
        let j = linked_to (about Probe (octets_of v)) in
        let kept = kept_answers w.controller in
        cond_elim (λ (a : List (List ℕ)). Agrees N (after O w (at controller (receive x room)) (accepted None w.controller a)))
        (member j (peer_records w.controller)) (reply i probe_code 0 ∷ []) _
        (λ _. agrees_replied Probe 0 [] w.controller code ps refl k.stored tt)
        (λ _. cond_elim (λ (a : List (List ℕ)). Agrees N (after O w (at controller (receive x room)) (accepted None w.controller a)))
        (is_kept j kept) (reply i probe_code 1 ∷ kept_apdu j kept ∷ []) (reply i probe_code 2 ∷ [])
        (λ h. agrees_replied Probe 1 (kept_apdu j kept ∷ []) w.controller code ps refl k.stored (k.stored _ (in_kept j kept h), tt))
        (λ _. agrees_replied Probe 2 [] w.controller code ps refl k.stored tt))
    agrees_invoked s Acknowledge q p =
        let j = linked_to (about Acknowledge (octets_of v)) in
        agrees_replied Acknowledge (cond (is_kept j (kept_answers w.controller)) 0 1) [] (drop_answer w.controller (record { 0 = j })) (service_code (field_code c) Acknowledge q refl) (passing Acknowledge q refl p) refl
        (stored_gone w.controller s.kept j k.stored) tt
    agrees_invoked s Ordinary q p =
        let f = arrived_invoke N w.controller i l c v p in
        agrees_accepted w x room _ e k (drop_answer (with_peer N w.controller i (field_code c)) (record { 0 = i }))
        (subst (λ (a : List Record). Known a heard' w.book.asked)
        (sym (peer_with N w.controller i (field_code c) s (listed_code_right N valid-N (field_code c) (operation_listed N c f.known)) (f.vacant q)))
        (known_heard new (is_silent N (field_code c)) asked_new k.known))
        (λ f n. told_more new (k.told f n))
        (subst (λ (a : List KeptAnswer). Stored (view_kept (pack_kept (kept_without i a)) (pack_store (kept_without i a))) w.book.given) (sym (kept_beside_peer N w.controller i (field_code c))) (stored_gone w.controller s.kept i k.stored))
