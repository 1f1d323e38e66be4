-- Each call at the controller keeps what the book says.
use Rattle.std.specs.Prelude.{Some, None}
use Prim.Native.Nat.{ℕ}
use mathlib.Core.Path.{◌≡◌, refl, sym, subst}
use mathlib.Core.Bool.{Bool, true, false, cond}
use mathlib.Core.List.{List, [], ◌∷◌, ◌++◌, Memᴰ as In}
use mathlib.Core.Logic.{inl, inr}
use native.Mathlib.Omega.{arith}
use lib.Dec.{eqb}
use Rattle.records.specs.declared.Record.{Record}
use Rattle.records.specs.Records.{member}
use Rattle.records.specs.Kept.{KeptAnswer}
use Rattle.records.specs.Held.{Held, kept_answers, keep_answer}
use Rattle.optable.specs.Service.{service_of}
use Rattle.records.proofs.Soundness.{view_retired}
use Rattle.optable.specs.Validity.{valid}
use Rattle.apdu.specs.Parse.{Apdu, badly_structured, unrecognized, mistyped, parse, invoke as Invoke, result as Result, error as Error, reject as Reject}
use Rattle.base.specs.Lists.{non_empty}
use Rattle.apdu.specs.Encode.{encode_invoke, encode_error, encode_reject}
use Rattle.apdu.proofs.FirstOctet.{first_invoke, first_reject}
use Rattle.apdu.proofs.FieldRoundTrip.{last_part, last_octets, CodeFits}
use Rattle.apdu.proofs.RoundTrip.{parse_result, parse_error}
use Rattle.protocol.specs.Call.{own, peer, Call, receive, invoke, result, error, reject, forget, Answer}
use Rattle.protocol.specs.Check.{Check, answer, code_in, peer_records, in_apdu, in_body}
use Rattle.protocol.specs.Receive.{field_code, fault, invoke_checks, result_checks, error_checks, without_own, retired_by, receive_apdu}
use Rattle.protocol.specs.Service.{keeps_answers}
use Rattle.protocol.specs.Perform.{checks, done, result_apdu, without_peer}
use Rattle.protocol.specs.Book.{last_code, kiosk, controller, at, a_result, an_error, Given, wired, Answered, World, wiring, after}
use Rattle.protocol.specs.ShownWasGiven.{InRange, Carried}
use Rattle.protocol.proofs.Checks.{Pass, settle}
use Rattle.protocol.proofs.Facts.{result_facts, error_facts, erred_right}
use Rattle.protocol.proofs.Ids.{in_code, in_last, in_member, one_code}
use Rattle.protocol.proofs.Steady.{Steady}
use Rattle.protocol.proofs.Written.{limits_size, limits_value, code_fits, peer_beside, kept_beside_own}
use Rattle.protocol.proofs.Invariant.{Known, NoAnswer, IsAnswer, Stored, Told, Agrees}
use Rattle.protocol.proofs.Keeping.{ends_apart, spoken_wired, sent_wired, answer_new, sent_more, each_kept, stored_more, view_kept_lem, known_retire}
use Rattle.protocol.proofs.Kiosk.{agrees_refused}
use Rattle.protocol.proofs.Hearing.{told_added, agrees_accepted, agrees_invoked}

module _ (O N : List ℕ) (valid-N : valid N ≡ true) where
  -- ---- the controller receives

  module _ (w : World) (x : List ℕ) (room : ℕ) (k : Agrees N w) where
    settled : (cs : List Check) (a : Answer) → (Pass cs → Agrees N (after O w (at controller (receive x room)) a)) → Agrees N (after O w (at controller (receive x room)) (answer cs a))
    settled cs a f = settle (λ b. Agrees N (after O w (at controller (receive x room)) b)) cs a (λ r. agrees_refused O N w controller (receive x room) r k) f

  agrees_in : (w : World) (x : List ℕ) (room : ℕ) (p : Apdu) → parse x ≡ p → In (wired kiosk x) w.book.wire → Steady N w.controller → Agrees N w
      → Agrees N (after O w (at controller (receive x room)) (receive_apdu N w.controller x p))
  unfolding receive_apdu
  agrees_in w x room (badly_structured p) e m s k = agrees_refused O N w controller (receive x room) (fault x 2 None) k
  agrees_in w x room unrecognized e m s k = agrees_refused O N w controller (receive x room) (fault x 0 None) k
  agrees_in w x room (mistyped i) e m s k = agrees_refused O N w controller (receive x room) (fault x 1 i) k
  agrees_in w x room (Invoke i l c v) e m s k =
      settled w x room k (invoke_checks N w.controller i l c v) _ (λ p. agrees_invoked O N valid-N w x room i l c v e m k s (service_of (field_code c)) refl p)
  agrees_in w x room (Result i b) e m s k =
      settled w x room k (result_checks N w.controller i b) _ (λ _. agrees_accepted O N w x room _ e k (without_own w.controller i) k.known k.told k.stored)
  agrees_in w x room (Error i d v) e m s k =
      settled w x room k (error_checks N w.controller i d v) _ (λ _. agrees_accepted O N w x room _ e k (without_own w.controller i) k.known k.told k.stored)
  agrees_in w x room (Reject None kind p) e m s k = agrees_accepted O N w x room _ e k w.controller k.known k.told k.stored
  agrees_in w x room (Reject (Some i) kind p) e m s k =
      agrees_accepted O N w x room _ e k (retired_by w.controller (Some i) kind) (peers (eqb kind 0x81)) k.told (keeps (eqb kind 0x81))
    where
      peers : (b : Bool) → Known (peer_records (cond b (without_own w.controller i) w.controller)) w.book.heard w.book.asked
      peers true = k.known
      peers false = k.known

      keeps : (b : Bool) → Stored (kept_answers (cond b (without_own w.controller i) w.controller)) w.book.given
      keeps true = k.stored
      keeps false = k.stored

  -- ---- the controller answers

  module _ (w : World) (i : ℕ) (k : Agrees N w) (has : member i (peer_records w.controller) ≡ true) where
    heard_code : In (record { id = i; code = code_in (peer_records w.controller) i }) w.book.heard
    heard_code = k.known.theirs (record { id = i; code = code_in (peer_records w.controller) i }) (in_code i (peer_records w.controller) has)

    last_heard : In (record { id = i; code = last_code i w.book.heard }) w.book.heard
    last_heard = in_last i w.book.heard (in_member (record { id = i; code = code_in (peer_records w.controller) i }) w.book.heard heard_code)

    -- the code of a peer record is the one last heard
    same_last : code_in (peer_records w.controller) i ≡ last_code i w.book.heard
    same_last = one_code w.book.asked k.ours.unique i _ _ (k.known.hears _ heard_code) (k.known.hears _ last_heard)

    fitting_code : CodeFits (code_in (peer_records w.controller) i)
    fitting_code = (k.ours.fits (record { id = i; code = code_in (peer_records w.controller) i }) (k.known.hears _ heard_code)).1

    -- an answer that reads back as given, its record retired, and kept where b says so
    agrees_given : Steady N w.controller → (b : Bool) (g : Given) (x : List ℕ) → Told N w.book.heard (record { given = g; apdu = x })
        → Agrees N (record { kiosk = w.kiosk; controller = keep_answer b (without_peer w.controller i) (record { 0 = i }) x; book = record { wire = wiring controller (x ∷ []) w.book.wire; asked = w.book.asked; heard = w.book.heard; given = w.book.given ++ (record { given = g; apdu = x } ∷ []); live = w.book.live }; shown = w.shown })
    agrees_given s b g x t =
        let e : Answered = record { given = g; apdu = x } in
        let answers = w.book.given ++ (e ∷ []) in
        record {
          ours = k.ours;
          spoken = spoken_wired controller (x ∷ []) (λ e. ends_apart (sym e)) k.spoken;
          known = same b;
          sent = sent_wired controller (x ∷ []) (λ _. (inl (answer_new w.book.given e), tt)) (sent_more e k.sent);
          told = told_added e t k.told;
          stored = subst (λ (l : List KeptAnswer). Stored l answers) (sym (view_kept_lem (without_peer w.controller i) s.kept.sound.short b i x))
              (each_kept (IsAnswer answers) b (record { id = i; apdu = x }) (answer_new w.book.given e) (stored_more e k.stored));
          quiet = k.quiet;
        }
      where
        retired : Known (peer_records (without_peer w.controller i)) w.book.heard w.book.asked
        retired = subst (λ (q : List Record). Known q w.book.heard w.book.asked) (sym (view_retired w.controller.state.peer i)) (known_retire i k.known)

        same : (b : Bool) → Known (peer_records (keep_answer b (without_peer w.controller i) (record { 0 = i }) x)) w.book.heard w.book.asked
        same true = retired
        same false = retired

  -- a request that writes no answer
  agrees_other : (w : World) (s : Held) (x : List ℕ) → NoAnswer x → Known (peer_records s) w.book.heard w.book.asked → kept_answers s ≡ kept_answers w.controller → Agrees N w
      → Agrees N (record { kiosk = w.kiosk; controller = s; book = record { wire = wiring controller (x ∷ []) w.book.wire; asked = w.book.asked; heard = w.book.heard; given = w.book.given; live = w.book.live }; shown = w.shown })
  agrees_other w s x f n same k = record {
    ours = k.ours;
    spoken = spoken_wired controller (x ∷ []) (λ e. ends_apart (sym e)) k.spoken;
    known = n;
    sent = sent_wired controller (x ∷ []) (λ _. (inr f, tt)) k.sent;
    told = k.told;
    stored = subst (λ (l : List KeptAnswer). Stored l w.book.given) (sym same) k.stored;
    quiet = k.quiet;
  }

  peer_retired : (w : World) (i : ℕ) → Agrees N w → Known (peer_records (without_peer w.controller i)) w.book.heard w.book.asked
  peer_retired w i k = subst (λ (q : List Record). Known q w.book.heard w.book.asked) (sym (view_retired w.controller.state.peer i)) (known_retire i k.known)

  pub agrees_controller : (w : World) (c : Call) → InRange c → Carried w.book.wire controller c → Steady N w.controller → Agrees N w
      → Pass (checks N w.controller c) → Agrees N (after O w (at controller c) (done N w.controller c))
  unfolding done
  agrees_controller w (receive x room) h m s k p = agrees_in w x room (parse x) refl m s k
  agrees_controller w (invoke i c l v room) h m s k p =
      let e = first_invoke i c (non_empty v) l in
      agrees_other w _ (encode_invoke i l c (non_empty v)) (omega arith, omega arith)
      (subst (λ (q : List Record). Known q w.book.heard w.book.asked) (sym (peer_beside N w.controller i c)) k.known) (kept_beside_own N w.controller i c) k
  agrees_controller w (result i v room) h m s k p =
      let f = result_facts N w.controller i v room p in
      let has = f.live in
      let lim = f.sendable.within in
      let same = same_last w i k has in
      agrees_given w i k has s (keeps_answers N (code_in (peer_records w.controller) i)) (record { id = i; operation = last_code i w.book.heard; kind = a_result; error = None; value = non_empty v }) (result_apdu w.controller i v)
      (record {
        size = limits_size in_body (non_empty v) (result_apdu w.controller i v) lim;
        from = last_heard w i k has;
        says = inl (record {
          kind = refl;
          error = refl;
          shown = last_part (result_apdu w.controller i v) (non_empty v);
          octets = last_octets (result_apdu w.controller i v) (non_empty v);
          reads = rw (← same) (parse_result i (code_in (peer_records w.controller) i) (non_empty v) h (fitting_code w i k has) (limits_value in_body (non_empty v) (result_apdu w.controller i v) lim) (limits_size in_body (non_empty v) (result_apdu w.controller i v) lim));
          class = rw (← same) f.class;
          right = rw (← same) f.right;
        });
      })
  agrees_controller w (error i e v room) h m s k p =
      let f = error_facts N w.controller i v room e p in
      let has = f.live in
      let lim = f.sendable.within in
      let same = same_last w i k has in
      agrees_given w i k has s (keeps_answers N (code_in (peer_records w.controller) i)) (record { id = i; operation = last_code i w.book.heard; kind = an_error; error = Some e; value = non_empty v }) (encode_error i e (non_empty v))
      (record {
        size = limits_size in_apdu (non_empty v) (encode_error i e (non_empty v)) lim;
        from = last_heard w i k has;
        says = inr (record {
          kind = refl;
          code = e;
          error = refl;
          shown = last_part (encode_error i e (non_empty v)) (non_empty v);
          octets = last_octets (encode_error i e (non_empty v)) (non_empty v);
          reads = parse_error i e (non_empty v) h.0 (code_fits e h.1 (erred_right N w.controller i e v room p)) (limits_value in_apdu (non_empty v) (encode_error i e (non_empty v)) lim) (limits_size in_apdu (non_empty v) (encode_error i e (non_empty v)) lim);
          class = rw (← same) f.class;
          right = f.right;
        });
      })
  agrees_controller w (reject i q room) h m s k p =
      let e = first_reject (Some i) 0x81 q in
      agrees_other w _ (encode_reject (Some i) 0x81 q) (omega arith, omega arith) (peer_retired w i k) refl k
  agrees_controller w (forget own i) h m s k p = record { ours = k.ours; spoken = k.spoken; known = k.known; sent = k.sent; told = k.told; stored = k.stored; quiet = k.quiet }
  agrees_controller w (forget peer i) h m s k p = record { ours = k.ours; spoken = k.spoken; known = peer_retired w i k; sent = k.sent; told = k.told; stored = k.stored; quiet = k.quiet }
