-- One end, call after call: each call leaves its state sound beside its store, and covered by its table.
use Rattle.std.specs.Prelude.{Option, Some, None}
use Prim.Native.Nat.{ℕ, ◌<◌}
use mathlib.Core.Path.{◌≡◌, refl, sym, subst, ap, ◌∙◌}
use mathlib.Core.Bool.{Bool, true, false, not, ◌&&◌}
use mathlib.Core.List.{List}
use lib.ListN.{length}
use native.Mathlib.Omega.{arith}
use lib.Dec.{eqb}
use borrow.Author.Tests.{leb-false}
use Rattle.base.proofs.Tests.{cond_elim, and_true}
use Rattle.codes.specs.declared.Code.{Code}
use Rattle.records.specs.declared.Record.{Record}
use Rattle.records.specs.declared.Records.{Records}
use Rattle.records.specs.Limits.{records}
use Rattle.records.specs.Records.{view, member, added, retired}
use Rattle.records.specs.Numbers.{among}
use Rattle.records.specs.Resting.{rested}
use Rattle.records.specs.Kept.{KeptAnswer, kept_without, keeping}
use Rattle.records.specs.State.{add_own, add_peer, forget_own}
use Rattle.records.specs.Held.{Held, fresh_held, in_state, kept_answers, keep_these, drop_answer, keep_answer}
use Rattle.records.proofs.Laws.{member_gone}
use Rattle.records.proofs.RestingLaws.{SoundResting, rest_retired, rest_added, rest_forgotten}
use Rattle.records.proofs.KeptLaws.{SoundKept, live_kept_not, kept_dropped, kept_retired, kept_added, kept_kept}
use Rattle.records.proofs.StoreLaws.{SoundStore, packed_store, beside_store}
use Rattle.records.proofs.Soundness.{Sound, SoundParts, view_retired, view_added, added_is_sound, retired_is_sound, fresh_is_sound}
use Rattle.optable.specs.Validity.{valid}
use Rattle.optable.specs.declared.Service.{Service}
use Rattle.optable.specs.declared.Service.TheVariants.{Probe, Acknowledge, Ordinary}
use Rattle.optable.specs.Service.{service_of}
use Rattle.optable.specs.Lookup.{operation_of, listed}
use Rattle.optable.proofs.NameLaws.{listed_code_right}
use Rattle.apdu.specs.Field.{Part}
use Rattle.apdu.specs.Encode.{encode_error}
use Rattle.base.specs.Lists.{non_empty}
use Rattle.apdu.specs.Parse.{Apdu, badly_structured, unrecognized, mistyped, parse, invoke as Invoke, result as Result, error as Error, reject as Reject}
use Rattle.protocol.specs.Call.{own, peer, Call, receive, invoke, result, error, reject, forget, held_after}
use Rattle.protocol.specs.Check.{covered, usable, is_silent, is_full, code_in, own_records, peer_records, resting_ids}
use Rattle.protocol.specs.Service.{keeps_answers}
use Rattle.protocol.specs.Receive.{field_code, invoke_checks, result_checks, error_checks, with_peer, invoke_done, without_own, receive_apdu}
use Rattle.protocol.specs.Perform.{checks, done, perform, with_own, without_peer, result_apdu}
use Rattle.protocol.proofs.Checks.{Pass, settle}
use Rattle.protocol.proofs.Facts.{invoke_facts, result_facts, error_facts, forgotten_live, arrived_invoke, table_valid, operation_listed}
use Rattle.protocol.proofs.Coverage.{covered_without, covered_added}

module _ (T : List ℕ) where
  -- ---- one side

  pub record SteadySide (d : Records) : Type 0 where
    pub sound : Sound d
    pub known : covered T (view d) ≡ true

  side_retired : {d : Records} (i : ℕ) → SteadySide d → SteadySide (retired d i)
  side_retired {d} i h = record {
    sound = retired_is_sound h.sound i;
    known = ap (covered T) (view_retired d i) ∙ covered_without T i (view d) h.known;
  }

  side_added : {d : Records} (r : Record) → member r.id (view d) ≡ false → valid T ≡ true → listed (operation_of T r.code) ≡ true → length (view d) < records → SteadySide d → SteadySide (added d r)
  side_added {d} r new v known room h =
      let form = listed_code_right T v r.code known in
      record {
        sound = added_is_sound h.sound r room new form;
        known = ap (covered T) (view_added h.sound r room) ∙ covered_added T r (view d) h.known known;
      }

  -- a side has room where a call that makes a record was not refused for it
  pub room_left : (b : Bool) (l : List Record) → b ≡ false → (not b && is_full l) ≡ false → length l < records
  room_left true l e h = absurd (true_false e)
    where
      true_false : true ≡ false → ⊥
      true_false e = let z : ◌≡◌ {A = ℕ} 0 1 = cc in omega arith
  room_left false l e h = leb-false records (length l) h

  -- ---- both sides, the ids that rest and the kept answers

  pub record Steady (s : Held) : Type 0 where
    pub own : SteadySide s.state.own
    pub peer : SteadySide s.state.peer
    pub resting : SoundResting (own_records s) s.state.resting
    pub kept : SoundStore (peer_records s) s.state.kept s.store

  pub steady_fresh : Steady fresh_held
  steady_fresh = record {
    own = record { sound = fresh_is_sound.own; known = refl };
    peer = record { sound = fresh_is_sound.peer; known = refl };
    resting = fresh_is_sound.resting;
    kept = fresh_is_sound.kept;
  }

  pub steady_sound : {s : Held} → Steady s → SoundParts s
  steady_sound h = record { own = h.own.sound; peer = h.peer.sound; resting = h.resting; kept = h.kept }

  pub steady_usable : valid T ≡ true → {s : Held} → Steady s → usable T s ≡ true
  unfolding usable
  steady_usable v h = and_true v (and_true h.own.known h.peer.known)

  steady_own_retired : {s : Held} (i : ℕ) → Steady s → Steady (without_own s i)
  steady_own_retired {s} i h = record {
    own = side_retired i h.own;
    peer = h.peer;
    resting = subst (λ (l : List Record). SoundResting l s.state.resting) (sym (view_retired s.state.own i)) (rest_retired h.resting i);
    kept = h.kept;
  }

  steady_own_forgotten : {s : Held} (i : ℕ) → member i (own_records s) ≡ true → Steady s → Steady (in_state s (forget_own s.state (record { 0 = i })))
  steady_own_forgotten {s} i live h = record {
    own = side_retired i h.own;
    peer = h.peer;
    resting = subst (λ (l : List Record). SoundResting l (rested s.state.resting i)) (sym (view_retired s.state.own i)) (rest_forgotten i live h.resting);
    kept = h.kept;
  }

  steady_peer_retired : {s : Held} (i : ℕ) → Steady s → Steady (without_peer s i)
  steady_peer_retired {s} i h = record {
    own = h.own;
    peer = side_retired i h.peer;
    resting = h.resting;
    kept = subst (λ (l : List Record). SoundStore l s.state.kept s.store) (sym (view_retired s.state.peer i)) (beside_store h.kept (kept_retired h.kept.sound i));
  }

  -- whatever keeps the list of the answers sound
  steady_kept : {s : Held} (l : List KeptAnswer) → SoundKept (peer_records s) l → Steady s → Steady (keep_these s l)
  steady_kept l k h = record { own = h.own; peer = h.peer; resting = h.resting; kept = packed_store l k }

  steady_dropped : {s : Held} (i : ℕ) → Steady s → Steady (drop_answer s (record { 0 = i }))
  steady_dropped i h = steady_kept _ (kept_dropped h.kept.sound i) h

  -- an answered record leaves, and its answer is kept where b says so
  steady_answered : {s : Held} (b : Bool) (i : ℕ) (x : List ℕ) → member i (peer_records s) ≡ true → Steady s → Steady (keep_answer b (without_peer s i) (record { 0 = i }) x)
  steady_answered {s} b i x has h =
      let k : KeptAnswer = record { id = i; apdu = x } in
      cond_elim Steady b (keep_these (without_peer s i) (keeping (kept_answers s) k)) (without_peer s i)
      (λ _.
      steady_kept (keeping (kept_answers s) k)
      (subst (λ (l : List Record). SoundKept l (keeping (kept_answers s) k)) (sym (view_retired s.state.peer i))
      (kept_kept (kept_retired h.kept.sound i) k (member_gone i (peer_records s)) (live_kept_not h.kept.sound i has)))
      (steady_peer_retired i h))
      (λ _. steady_peer_retired i h)

  steady_own_added : (s : Held) (i : ℕ) (c : Code) → member i (own_records s) ≡ false → among i (resting_ids s) ≡ false → valid T ≡ true → listed (operation_of T c) ≡ true → (not (is_silent T c) && is_full (own_records s)) ≡ false
      → Steady s → Steady (with_own T s i c)
  steady_own_added s i c new free v known room h =
      let r : Record = record { id = i; code = c } in
      cond_elim Steady (is_silent T c) s (in_state s (add_own s.state (record { 0 = i }) c)) (λ _. h)
      (λ e.
      let vacant = room_left (is_silent T c) (own_records s) e room in
      record {
        own = side_added r new v known vacant h.own;
        peer = h.peer;
        resting = subst (λ (l : List Record). SoundResting l s.state.resting) (sym (view_added h.own.sound r vacant)) (rest_added h.resting r free);
        kept = h.kept;
      })

  -- a peer record comes, unless it is silent, and the kept answer of its id goes
  steady_peer_added : (s : Held) (i : ℕ) (c : Code) → member i (peer_records s) ≡ false → valid T ≡ true → listed (operation_of T c) ≡ true → (not (is_silent T c) && is_full (peer_records s)) ≡ false
      → Steady s → Steady (drop_answer (with_peer T s i c) (record { 0 = i }))
  steady_peer_added s i c new v known room h =
      let r : Record = record { id = i; code = c } in
      cond_elim (λ (t : Held). Steady (drop_answer t (record { 0 = i }))) (is_silent T c) s (in_state s (add_peer s.state (record { 0 = i }) c)) (λ _. steady_dropped i h)
      (λ e.
      let vacant = room_left (is_silent T c) (peer_records s) e room in
      record {
        own = h.own;
        peer = side_added r new v known vacant h.peer;
        resting = h.resting;
        kept = packed_store _ (subst (λ (l : List Record). SoundKept l (kept_without i (kept_answers s))) (sym (view_added h.peer.sound r vacant)) (kept_added h.kept.sound r));
      })

  -- ---- each call keeps it

  steady_invoked : (s : Held) (i : ℕ) (l : Option ℕ) (c : Option Code) (v : Option Part) (q : Service) → service_of (field_code c) ≡ q → valid T ≡ true → Pass (invoke_checks T s i l c v) → Steady s
      → Steady (held_after s (invoke_done T s i l (field_code c) v q))
  unfolding invoke_done
  steady_invoked s i l c v Probe q w p h = h
  steady_invoked s i l c v Acknowledge q w p h = steady_dropped _ h
  steady_invoked s i l c v Ordinary q w p h =
      let f = arrived_invoke T s i l c v p in
      steady_peer_added s i (field_code c) f.new w (operation_listed T c f.known) (f.vacant q) h

  steady_received : (s : Held) (x : List ℕ) (p : Apdu) → valid T ≡ true → Steady s → Steady (held_after s (receive_apdu T s x p))
  unfolding receive_apdu
  steady_received s x (badly_structured p) w h = h
  steady_received s x unrecognized w h = h
  steady_received s x (mistyped i) w h = h
  steady_received s x (Invoke i l c v) w h =
      settle (λ a. Steady (held_after s a)) (invoke_checks T s i l c v) _ (λ _. h)
      (λ p. steady_invoked s i l c v (service_of (field_code c)) refl w p h)
  steady_received s x (Result i b) w h = settle (λ a. Steady (held_after s a)) (result_checks T s i b) _ (λ _. h) (λ _. steady_own_retired i h)
  steady_received s x (Error i e v) w h = settle (λ a. Steady (held_after s a)) (error_checks T s i e v) _ (λ _. h) (λ _. steady_own_retired i h)
  steady_received s x (Reject None kind p) w h = h
  steady_received s x (Reject (Some i) kind p) w h = cond_elim Steady (eqb kind 0x81) (without_own s i) s (λ _. steady_own_retired i h) (λ _. h)

  steady_done : (s : Held) (c : Call) → Pass (checks T s c) → Steady s → Steady (held_after s (done T s c))
  unfolding done
  steady_done s (receive x room) p h = steady_received s x (parse x) (table_valid T s (receive x room) p) h
  steady_done s (invoke i c l v room) p h =
      let f = invoke_facts T s i v room c l p in steady_own_added s i c f.new f.free (table_valid T s (invoke i c l v room) p) f.known f.vacant h
  steady_done s (result i v room) p h =
      steady_answered (keeps_answers T (code_in (peer_records s) i)) i (result_apdu s i v) (result_facts T s i v room p).live h
  steady_done s (error i e v room) p h =
      steady_answered (keeps_answers T (code_in (peer_records s) i)) i (encode_error i e (non_empty v)) (error_facts T s i v room e p).live h
  steady_done s (reject i p room) q h = steady_peer_retired i h
  steady_done s (forget own i) p h = steady_own_forgotten i (forgotten_live T s i p) h
  steady_done s (forget peer i) p h = steady_peer_retired i h

  pub steady_step : (s : Held) (c : Call) → Steady s → Steady (held_after s (perform T s c))
  unfolding perform
  steady_step s c h = settle (λ a. Steady (held_after s a)) (checks T s c) (done T s c) (λ _. h) (λ p. steady_done s c p h)
