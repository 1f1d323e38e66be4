-- Each call at the kiosk keeps what the book says.
use Rattle.std.specs.Prelude.{Option, Some, None}
use Prim.Native.Nat.{ℕ}
use mathlib.Core.Path.{◌≡◌, refl, sym, subst, ap, ◌∙◌}
use mathlib.Core.Bool.{Bool, true, false, cond}
use mathlib.Core.List.Memᴰ.{append_left as in_left}
use mathlib.Core.List.Memᴰ.{append_right as in_right}
use mathlib.Core.List.Memᴰ.{head as here}
use mathlib.Core.List.{List, [], ◌∷◌, ◌++◌, Memᴰ as In}
use mathlib.Core.Logic.{◌⊎◌, inl, inr}
use native.Mathlib.Omega.{arith}
use lib.Dec.{eqb}
use Rattle.codes.specs.declared.Code.{Code}
use Rattle.records.specs.declared.Record.{Record}
use Rattle.records.specs.Records.{without, ids_of}
use Rattle.records.specs.Kept.{KeptAnswer, is_kept, kept_without, view_kept, pack_kept, pack_store}
use Rattle.records.specs.Held.{Held, kept_answers, keep_answer, drop_answer}
use Rattle.records.proofs.StoreLaws.{SoundStore}
use Rattle.optable.specs.declared.Service.{Service}
use Rattle.optable.specs.declared.Service.TheVariants.{Probe, Acknowledge, Ordinary}
use Rattle.optable.specs.Service.{probe_code, acknowledge_code, service_of}
use Rattle.records.proofs.Soundness.{view_retired}
use Rattle.records.specs.Numbers.{among, leaving}
use Rattle.apdu.specs.Field.{Part, octets_of}
use Rattle.apdu.specs.Parse.{Apdu, badly_structured, unrecognized, mistyped, parse, invoke as Invoke, result as Result, error as Error, reject as Reject}
use Rattle.base.specs.Lists.{non_empty}
use Rattle.apdu.specs.Encode.{encode_invoke, encode_error, encode_reject}
use Rattle.apdu.proofs.FirstOctet.{first_result, first_error, first_reject}
use Rattle.apdu.proofs.RoundTrip.{parse_invoke}
use Rattle.protocol.specs.Call.{own, peer, Indication, invoked, resulted, erred, rejected_u, rejected_p, Call, receive, invoke, result, error, reject, forget, Refusal, reject_written, Answer, accepted, refused}
use Rattle.protocol.specs.Check.{Check, answer, code_in, own_records, peer_records, is_silent, linked_to, in_apdu}
use Rattle.protocol.specs.Receive.{field_code, fault, invoke_checks, result_checks, error_checks, with_peer, invoke_done, without_own, retired_by, rejection, receive_apdu}
use Rattle.protocol.specs.Service.{about, probed, acknowledged, keeps_answers}
use Rattle.protocol.specs.Perform.{checks, done, result_apdu, without_peer, answering}
use Rattle.protocol.specs.Book.{leaving_by, End, kiosk, controller, at, Wired, wired, wiring, World, showing, shown_by, after}
use Rattle.protocol.specs.ShownWasGiven.{InRange}
use Rattle.protocol.proofs.Checks.{Pass, settle}
use Rattle.protocol.proofs.Facts.{invoke_facts, arrived_result, arrived_error, invoked_right}
use Rattle.protocol.proofs.Steady.{Steady}
use Rattle.protocol.proofs.Written.{refusal_first, first_reply, limits_size, limits_value, number_fits, code_fits, own_with, own_beside, kept_beside_peer, kept_beside_own}
use Rattle.protocol.proofs.Invariant.{Ours, Spoken, NoInvoke, Quiet, Agrees}
use Rattle.protocol.proofs.Keeping.{Each, ends_apart, spoken_wired, wired_cases, sent_wired, none_answer, each_dropped, each_probed, each_kept, view_dropped, view_kept_lem, ours_retire, ours_show, ours_ask, known_asked}

-- what a call asks of the ids used: its own, if it is an invoke
abbrev pub is_invoke : Call → Bool
is_invoke (invoke i c l v room) = true
is_invoke (receive x room) = false
is_invoke (result i v room) = false
is_invoke (error i e v room) = false
is_invoke (reject i p room) = false
is_invoke (forget side i) = false

abbrev pub id_in : Call → ℕ
id_in (invoke i c l v room) = i
id_in (receive x room) = 0
id_in (result i v room) = i
id_in (error i e v room) = i
id_in (reject i p room) = i
id_in (forget side i) = i

module _ (O N : List ℕ) where
  pub agrees_refused : (w : World) (e : End) (c : Call) (r : Refusal) → Agrees N w → Agrees N (after O w (at e c) (refused r))
  agrees_refused w kiosk c r k = record {
    ours = k.ours;
    spoken = spoken_wired kiosk (reject_written r) (λ _. (refusal_first r).0) k.spoken;
    known = k.known;
    sent = sent_wired kiosk (reject_written r) ends_apart k.sent;
    told = k.told;
    stored = k.stored;
    quiet = k.quiet;
  }
  agrees_refused w controller c r k = record {
    ours = k.ours;
    spoken = spoken_wired controller (reject_written r) (λ e. ends_apart (sym e)) k.spoken;
    known = k.known;
    sent = sent_wired controller (reject_written r) (λ _. none_answer w.book.given (reject_written r) (refusal_first r).1) k.sent;
    told = k.told;
    stored = k.stored;
    quiet = k.quiet;
  }

  -- ---- the kiosk receives

  -- what the kiosk's receive writes itself is no Invoke
  probed_quiet : (s : Held) (i j : ℕ) → Quiet (kept_answers s) → Each NoInvoke (probed s i j)
  probed_quiet s i j q = each_probed NoInvoke s i j (λ n. omega (arith, first_reply i probe_code n)) q

  acknowledged_quiet : (s : Held) (i j : ℕ) → Each NoInvoke (acknowledged s i j)
  unfolding acknowledged
  acknowledged_quiet s i j = (omega (arith, first_reply i acknowledge_code (cond (is_kept j (kept_answers s)) 0 1)), tt)

  -- the answers that stay when one is dropped
  quiet_gone : {peers : List Record} (s : Held) → SoundStore peers s.state.kept s.store → (i : ℕ) → Quiet (kept_answers s) → Quiet (kept_answers (drop_answer s (record { 0 = i })))
  quiet_gone s h i q = subst Quiet (sym (view_dropped s h.sound.short i)) (each_dropped NoInvoke i q)

  -- an accepted receive asks nothing and writes no Invoke: only the own records, live, shown and the kept answers may change
  module _ (w : World) (x : List ℕ) (room : ℕ) (p : Apdu) (e : parse x ≡ p) (k : Agrees N w) where
    agrees_writing : (i : Option Indication) (s : Held) (l : List (List ℕ)) → Each NoInvoke l → Quiet (kept_answers s)
        → Ours (own_records s) (leaving_by p w.book.live) w.book.asked (showing (shown_by i) w.shown) → Agrees N (after O w (at kiosk (receive x room)) (accepted i s l))
    agrees_writing i s l n q o = record {
      ours = rw e o;
      spoken = spoken_wired kiosk l (λ _. n) k.spoken;
      known = k.known;
      sent = sent_wired kiosk l ends_apart k.sent;
      told = k.told;
      stored = k.stored;
      quiet = q;
    }

    -- one that writes nothing and keeps the kept answers
    agrees_accepted : (i : Indication) (s : Held) → kept_answers s ≡ kept_answers w.kiosk → Ours (own_records s) (leaving_by p w.book.live) w.book.asked (showing (shown_by (Some i)) w.shown)
        → Agrees N (after O w (at kiosk (receive x room)) (accepted (Some i) s []))
    agrees_accepted i s same o = agrees_writing (Some i) s [] tt (subst Quiet (sym same) k.quiet) o

    -- its own record leaves
    own_retired : {live : List ℕ} {shown : List ℕ} (i : ℕ) → Ours (without i (own_records w.kiosk)) live w.book.asked shown → Ours (own_records (without_own w.kiosk i)) live w.book.asked shown
    own_retired {live} {shown} i o = subst (λ (l : List Record). Ours l live w.book.asked shown) (sym (view_retired w.kiosk.state.own i)) o

    settled : (cs : List Check) (a : Answer) → (Pass cs → Agrees N (after O w (at kiosk (receive x room)) a)) → Agrees N (after O w (at kiosk (receive x room)) (answer cs a))
    settled cs a f = settle (λ b. Agrees N (after O w (at kiosk (receive x room)) b)) cs a (λ r. agrees_refused w kiosk (receive x room) r k) f

  agrees_invoked : (w : World) (x : List ℕ) (room i : ℕ) (l : Option ℕ) (c : Option Code) (v : Option Part) → parse x ≡ Invoke i l c v → Steady O w.kiosk → Agrees N w → (q : Service)
      → Agrees N (after O w (at kiosk (receive x room)) (invoke_done O w.kiosk i l (field_code c) v q))
  unfolding invoke_done
  agrees_invoked w x room i l c v e s k Probe =
      let j = linked_to (about Probe (octets_of v)) in
      agrees_writing w x room _ e k None w.kiosk (probed w.kiosk i j) (probed_quiet w.kiosk i j k.quiet) k.quiet k.ours
  agrees_invoked w x room i l c v e s k Acknowledge =
      let j = linked_to (about Acknowledge (octets_of v)) in
      agrees_writing w x room _ e k None (drop_answer w.kiosk (record { 0 = j })) (acknowledged w.kiosk i j) (acknowledged_quiet w.kiosk i j) (quiet_gone w.kiosk s.kept j k.quiet) k.ours
  agrees_invoked w x room i l c v e s k Ordinary =
      agrees_writing w x room _ e k (Some (invoked i l (field_code c) v)) (drop_answer (with_peer O w.kiosk i (field_code c)) (record { 0 = i })) [] tt
      (dropped (kept_beside_peer O w.kiosk i (field_code c)))
      (subst (λ (m : List Record). Ours m w.book.live w.book.asked w.shown) (sym (own_beside O w.kiosk i (field_code c))) k.ours)
    where
      dropped : kept_answers (with_peer O w.kiosk i (field_code c)) ≡ kept_answers w.kiosk → Quiet (kept_answers (drop_answer (with_peer O w.kiosk i (field_code c)) (record { 0 = i })))
      dropped same = subst (λ (l : List KeptAnswer). Quiet (view_kept (pack_kept (kept_without i l)) (pack_store (kept_without i l)))) (sym same) (quiet_gone w.kiosk s.kept i k.quiet)

  agrees_in : (w : World) (x : List ℕ) (room : ℕ) (p : Apdu) → parse x ≡ p → Steady O w.kiosk → Agrees N w → Agrees N (after O w (at kiosk (receive x room)) (receive_apdu O w.kiosk x p))
  unfolding receive_apdu
  agrees_in w x room (badly_structured p) e s k = agrees_refused w kiosk (receive x room) (fault x 2 None) k
  agrees_in w x room unrecognized e s k = agrees_refused w kiosk (receive x room) (fault x 0 None) k
  agrees_in w x room (mistyped i) e s k = agrees_refused w kiosk (receive x room) (fault x 1 i) k
  agrees_in w x room (Invoke i l c v) e s k =
      settled w x room _ e k (invoke_checks O w.kiosk i l c v) _
      (λ _. agrees_invoked w x room i l c v e s k (service_of (field_code c)))
  agrees_in w x room (Result i b) e s k =
      settled w x room _ e k (result_checks O w.kiosk i b) _
      (λ p. agrees_accepted w x room _ e k (resulted i b (code_in (own_records w.kiosk) i)) (without_own w.kiosk i) refl (own_retired w x room _ e k i (ours_show i (arrived_result O w.kiosk i b p) k.ours)))
  agrees_in w x room (Error i d v) e s k =
      settled w x room _ e k (error_checks O w.kiosk i d v) _
      (λ p. agrees_accepted w x room _ e k (erred i (field_code d) v (code_in (own_records w.kiosk) i)) (without_own w.kiosk i) refl (own_retired w x room _ e k i (ours_show i (arrived_error O w.kiosk i d v p).live k.ours)))
  agrees_in w x room (Reject None kind p) e s k = agrees_accepted w x room _ e k (rejected_p None p) w.kiosk refl k.ours
  agrees_in w x room (Reject (Some i) kind p) e s k =
      agrees_accepted w x room _ e k (rejection (Some i) kind p) (retired_by w.kiosk (Some i) kind) (same (eqb kind 0x81)) (shows (eqb kind 0x80) (leaves (eqb kind 0x81)))
    where
      same : (b : Bool) → kept_answers (cond b (without_own w.kiosk i) w.kiosk) ≡ kept_answers w.kiosk
      same true = refl
      same false = refl

      leaves : (b : Bool) → Ours (own_records (cond b (without_own w.kiosk i) w.kiosk)) (cond b (leaving i w.book.live) w.book.live) w.book.asked w.shown
      leaves true = own_retired w x room _ e k i (ours_retire i k.ours)
      leaves false = k.ours

      shows : (b : Bool) {owns : List Record} {live : List ℕ} → Ours owns live w.book.asked w.shown → Ours owns live w.book.asked (showing (shown_by (Some (cond b (rejected_p (Some i) p) (rejected_u i kind p)))) w.shown)
      shows true o = o
      shows false o = o

  -- ---- the kiosk's requests

  spoken_asked : {wire : List Wired} {asked : List Record} (i : ℕ) (l : Option ℕ) (c : Code) (v : Option (List ℕ)) (p : Option Part) → parse (encode_invoke i l c v) ≡ Invoke i l (Some c) p
      → Spoken wire asked → Spoken (wiring kiosk (encode_invoke i l c v ∷ []) wire) (asked ++ (record { id = i; code = c } ∷ []))
  spoken_asked {wire} {asked} i l c v p back s y m i' l' c' v' e = go (wired_cases kiosk (encode_invoke i l c v) wire m)
    where
      go : In (wired kiosk y) wire ⊎ (wired kiosk y ≡ wired kiosk (encode_invoke i l c v)) → In (record { id = i'; code = field_code c' }) (asked ++ (record { id = i; code = c } ∷ []))
      go (inl a) = in_left (record { id = i; code = c } ∷ []) (s y a i' l' c' v' e)
      go (inr a) =
          let q : y ≡ encode_invoke i l c v = ap (λ (z : Wired). z.apdu) a in
          let b : parse y ≡ Invoke i l (Some c) p = ap parse q ∙ back in
          let d : i' ≡ i = cc in
          let f : c' ≡ Some c = cc in
          in_right asked (here (rw (d, f)))

  -- a request that writes no Invoke and asks nothing
  agrees_answering : (w : World) (c : Call) (s : Held) (x : List ℕ) → NoInvoke x → own_records s ≡ own_records w.kiosk → Quiet (kept_answers s) → Agrees N w
      → Agrees N (record { kiosk = s; controller = w.controller; book = record { wire = wiring kiosk (x ∷ []) w.book.wire; asked = w.book.asked; heard = w.book.heard; given = w.book.given; live = w.book.live }; shown = w.shown })
  agrees_answering w c s x n e q k = record {
    ours = subst (λ (l : List Record). Ours l w.book.live w.book.asked w.shown) (sym e) k.ours;
    spoken = spoken_wired kiosk (x ∷ []) (λ _. (n, tt)) k.spoken;
    known = k.known;
    sent = sent_wired kiosk (x ∷ []) ends_apart k.sent;
    told = k.told;
    stored = k.stored;
    quiet = q;
  }

  -- an answer of the kiosk's, kept or not
  agrees_given : (w : World) (c : Call) (i : ℕ) (x : List ℕ) → NoInvoke x → Steady O w.kiosk → Agrees N w
      → Agrees N (record { kiosk = answering O w.kiosk i x; controller = w.controller; book = record { wire = wiring kiosk (x ∷ []) w.book.wire; asked = w.book.asked; heard = w.book.heard; given = w.book.given; live = w.book.live }; shown = w.shown })
  agrees_given w c i x f s k =
      let b = keeps_answers O (code_in (peer_records w.kiosk) i) in
      agrees_answering w c (answering O w.kiosk i x) x f (same b)
      (subst Quiet (sym (view_kept_lem (without_peer w.kiosk i) s.kept.sound.short b i x)) (each_kept NoInvoke b (record { id = i; apdu = x }) f k.quiet)) k
    where
      same : (b : Bool) → own_records (keep_answer b (without_peer w.kiosk i) (record { 0 = i }) x) ≡ own_records w.kiosk
      same true = refl
      same false = refl

  pub agrees_kiosk : (w : World) (c : Call) → InRange c → Steady O w.kiosk → (is_invoke c ≡ true → among (id_in c) (ids_of w.book.asked) ≡ false) → Agrees N w
      → Pass (checks O w.kiosk c) → Agrees N (after O w (at kiosk c) (done O w.kiosk c))
  unfolding done
  agrees_kiosk w (receive x room) h s n k p = agrees_in w x room (parse x) refl s k
  agrees_kiosk w (invoke i c l v room) h s n k p =
      let f = invoke_facts O w.kiosk i v room c l p in
      let lim = f.sendable.within in
      let form = invoked_right O w.kiosk i c l v room p in
      let fits = code_fits c h.1 form in
      record {
        ours = subst (λ (m : List Record). Ours m (cond (is_silent O c) w.book.live (w.book.live ++ (i ∷ []))) (w.book.asked ++ (record { id = i; code = c } ∷ [])) w.shown)
            (sym (own_with O w.kiosk i c s form f.vacant))
            (ours_ask i c (is_silent O c) h.0 fits (n refl) k.ours);
        spoken = spoken_asked i l c (non_empty v) _ (parse_invoke i l c (non_empty v) h.0 (number_fits l h.2) fits (limits_value in_apdu (non_empty v) (encode_invoke i l c (non_empty v)) lim) (limits_size in_apdu (non_empty v) (encode_invoke i l c (non_empty v)) lim)) k.spoken;
        known = known_asked (record { id = i; code = c }) k.known;
        sent = sent_wired kiosk (encode_invoke i l c (non_empty v) ∷ []) ends_apart k.sent;
        told = k.told;
        stored = k.stored;
        quiet = subst Quiet (sym (kept_beside_own O w.kiosk i c)) k.quiet;
      }
  agrees_kiosk w (result i v room) h s n k p =
      agrees_given w (result i v room) i (result_apdu w.kiosk i v) (omega (arith, first_result i (code_in (peer_records w.kiosk) i) (non_empty v))) s k
  agrees_kiosk w (error i e v room) h s n k p = agrees_given w (error i e v room) i (encode_error i e (non_empty v)) (omega (arith, first_error i e (non_empty v))) s k
  agrees_kiosk w (reject i q room) h s n k p = agrees_answering w (reject i q room) _ (encode_reject (Some i) 0x81 q) (omega (arith, first_reject (Some i) 0x81 q)) refl k.quiet k
  agrees_kiosk w (forget own i) h s n k p = record {
    ours = subst (λ (l : List Record). Ours l (leaving i w.book.live) w.book.asked w.shown) (sym (view_retired w.kiosk.state.own i)) (ours_retire i k.ours);
    spoken = k.spoken;
    known = k.known;
    sent = k.sent;
    told = k.told;
    stored = k.stored;
    quiet = k.quiet;
  }
  agrees_kiosk w (forget peer i) h s n k p = record { ours = k.ours; spoken = k.spoken; known = k.known; sent = k.sent; told = k.told; stored = k.stored; quiet = k.quiet }
