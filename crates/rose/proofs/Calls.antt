-- What a call answers once its checks are made.
use Prim.Native.Nat.{ℕ, ◌-◌, ◌≤◌}
use mathlib.Core.Bool.{Bool, true, false, cond, ◌&&◌}
use mathlib.Core.Path.{◌≡◌, refl, sym, subst, ap, ◌∙◌}
use mathlib.Core.List.{List, [], ◌∷◌, ◌++◌, append-nil}
use native.Mathlib.Omega.{arith}
use lib.ListN.{length, take, drop}
use lib.Seq.{take-append_seam}
use lib.Dec.{leb}
use borrow.Author.Tests.{leb-true, ltb-false, not-false}
use Rattle.base.proofs.Tests.{and_left, and_right}
use Rattle.std.specs.Prelude.{Result, Err, Option, Some, None}
use Rattle.base.specs.Lists.{non_empty}
use Rattle.base.specs.Octets.{part}
use Rattle.codes.specs.declared.Code.{Code}
use Rattle.records.specs.declared.State.{State}
use Rattle.records.specs.declared.PeerId.{PeerId}
use Rattle.records.specs.declared.Records.{Records}
use Rattle.records.specs.Records.{sound_records, retired}
use Rattle.records.specs.State.{sound_state, put_peer}
use Rattle.records.specs.Held.{Held, sound_held, in_state, keep_answer}
use Rattle.records.specs.Limits.{octets, levels}
use Rattle.records.proofs.Soundness.{held_peer_sound}
use Rattle.ber.specs.Element.{place}
use Rattle.apdu.specs.Encode.{encode_invoke, encode_result, encode_error, encode_reject, WrittenWhole}
use Rattle.apdu.proofs.SizeLaws.{reject_most}
use Rattle.protocol.specs.declared.Invocation.{Invocation}
use Rattle.protocol.specs.declared.Invocation.TheVariants.{Own, Peer}
use Rattle.protocol.specs.declared.Refusal.{Refusal as Reason}
use Rattle.protocol.specs.Call.{own, peer, Call, receive, invoke, result, error, reject, forget, Refusal, plain, rejecting, accepted, end_to_end, place_named, reject_written}
use Rattle.protocol.specs.Check.{Check, peer_records, code_in, in_apdu, in_body, within_limits, shared}
use Rattle.protocol.specs.Perform.{later_checks, checks, done, perform, with_own, without_peer, answering, result_apdu}
use Rattle.protocol.specs.Reading.{read_refusal, forgetting, read_outcome, RequestPromise}
use Rattle.protocol.proofs.Checks.{Pass, passed}
use Rattle.protocol.proofs.Facts.{Sendable, invoke_facts, result_facts, error_facts, reject_fits}
use Rattle.rose.specs.declared.request.Answering.{Answering}
use Rattle.rose.specs.Answering.{Answers}
use Rattle.rose.specs.Answers.{request_refused, request_accepted, Requests}
use Rattle.rose.specs.Changes.{without_invocation}
use Rattle.rose.specs.declared.usable.Usable.{Usable}
use Rattle.rose.specs.Usable.{held, table}
use Rattle.rose.specs.Steps.{first}
use Rattle.rose.proofs.CheckLaws.{none_answers, some_answers, none_passes, first_some, behind}
use Rattle.rose.proofs.Written.{Fits, whole, counts, writes_one}

-- ---- a refusal writes nothing

abbrev pub all_of : (Refusal → Bool) → List Check → Bool
all_of t [] = true
all_of t (c ∷ cs) = t c.why && all_of t cs

pub first_of : (t : Refusal → Bool) (cs : List Check) (r : Refusal) → all_of t cs ≡ true → first cs ≡ Some r → t r ≡ true
first_of t [] r h e = absurd (let z : ⊥ = cc in z)
first_of t (c ∷ cs) r h e = go c.fails e (first_of t cs r (and_right (t c.why) _ h))
  where
    go : (b : Bool) → cond b (Some c.why) (first cs) ≡ Some r → (first cs ≡ Some r → t r ≡ true) → t r ≡ true
    go true q ih = let k : c.why ≡ r = cc in subst (λ (x : Refusal). t x ≡ true) k (and_left _ _ h)
    go false q ih = ih q

abbrev pub is_plain : Refusal → Bool
is_plain (plain n) = true
is_plain (rejecting i kind p) = false

pub checks_plain : (T : List ℕ) (s : Held) (c : Call) → all_of is_plain (checks T s c) ≡ true
unfolding later_checks
checks_plain T s (receive x room) = refl
checks_plain T s (invoke i c l v room) = refl
checks_plain T s (result i v room) = refl
checks_plain T s (error i e v room) = refl
checks_plain T s (reject i p room) = refl
checks_plain T s (forget own i) = refl
checks_plain T s (forget peer i) = refl

writes_none : (r : Refusal) → is_plain r ≡ true → reject_written r ≡ []
writes_none (plain n) h = refl
writes_none (rejecting i kind p) h = absurd (let z : ⊥ = cc in z)

module _ (T : List ℕ) (s : Held) (c : Call) where
  -- ---- refused

  pub is_refused : (why : Reason) → Some (read_refusal why) ≡ first (checks T s c) → (x before : List ℕ) (p : ℕ) → p ≡ place levels x
      → RequestPromise (perform T s c) s s.store x before before (request_refused s.state why p)
  unfolding perform place_named read_outcome
  is_refused why h x before p e =
      let nothing : reject_written (read_refusal why) ≡ [] = writes_none (read_refusal why) (first_of is_plain (checks T s c) (read_refusal why) (checks_plain T s c) (sym h)) in
      rw (some_answers (checks T s c) (done T s c) (read_refusal why) (sym h), e)
      (record {
        answers = refl;
        holds = refl;
        written = record { octets = rw nothing refl; counted = rw nothing refl };
        place = refl;
      })

  -- by 19 or 1
  pub refused_first : (why : Reason) → Some (read_refusal why) ≡ first (shared T s) → (x before : List ℕ) (r : Result ℕ Reason) → r ≡ Err why → Requests T s c x s before before r
  refused_first why h x before r e = rw e (is_refused why (first_some (shared T s) (later_checks T s c) (read_refusal why) h) x before (place levels x) refl)

  -- by a later check of what is usable
  pub refused_later : (u : Usable) → (held u ≡ s) × (table u ≡ T) → None ≡ first (shared T s) → (why : Reason) → Some (read_refusal why) ≡ first (later_checks (table u) (held u) c)
      → (x before : List ℕ) (r : Result ℕ Reason) → r ≡ Err why → Requests T s c x s before before r
  refused_later u same g why h x before r e = rw e (is_refused why (behind u T s same c g (Some (read_refusal why)) h) x before (place levels x) refl)

  -- ---- accepted

  module _ (h : None ≡ first (checks T s c)) where
    pub all_pass : Pass (checks T s c)
    all_pass = none_passes (checks T s c) (sym h)

    pub sound : sound_held s ≡ true
    sound = not-false (sound_held s) (passed (checks T s c) all_pass 19)

    pub performs : perform T s c ≡ done T s c
    unfolding perform
    performs = none_answers (checks T s c) (done T s c) (sym h)

    -- what the end then holds is t, and nothing is written, or the APDU x where it fits
    pub is_accepted : (given : List ℕ) (t : Held) (l : List (List ℕ)) → done T s c ≡ accepted None t l → (before after : List ℕ) (n : ℕ) → after ≡ end_to_end l ++ drop (length (end_to_end l)) before → n ≡ length (end_to_end l)
        → RequestPromise (perform T s c) s t.store given before after (request_accepted t.state n)
    unfolding read_outcome place_named
    is_accepted given t l d before after n w k =
        rw (performs, d) (record { answers = refl; holds = refl; written = record { octets = w; counted = k }; place = refl })

    pub is_sent : (given : List ℕ) (t : Held) (x : List ℕ) → done T s c ≡ accepted None t (x ∷ []) → (before after : List ℕ) (n : ℕ) → Fits x before → WrittenWhole before x after n
        → RequestPromise (perform T s c) s t.store given before after (request_accepted t.state n)
    is_sent given t x d before after n f w =
        let all = writes_one before (x ∷ []) x (append-nil x) f.small after n w in
        let room : length (end_to_end (x ∷ [])) ≤ length before = rw (append-nil x) f.room in
        is_accepted given t (x ∷ []) d before after n (all.octets room) (all.counted room)

-- ---- what is sent fits

module _ (down : ℕ) (v x before : List ℕ) (k : Sendable down v x (length before)) where
  pub sent_fits : Fits x before
  unfolding within_limits
  sent_fits = record {
    small = leb-true (length x) octets (and_left (leb (length x) octets) _ k.within);
    room = ltb-false (length before) (length x) k.fits;
  }

reject_sent : (T : List ℕ) (s : Held) (i p : ℕ) (before : List ℕ) → Pass (checks T s (reject i p (length before))) → Fits (encode_reject (Some i) 0x81 p) before
reject_sent T s i p before h = record {
  small = omega (arith, reject_most (Some i) 0x81 p);
  room = ltb-false (length before) (length (encode_reject (Some i) 0x81 p)) (reject_fits T s i p (length before) h);
}

-- ---- each call

module _ (T : List ℕ) (s : Held) (before after : List ℕ) (n : ℕ) where
  pub invoke_sent : (i : ℕ) (c : Code) (l : Option ℕ) (v : List ℕ) → None ≡ first (checks T s (invoke i c l v (length before))) → WrittenWhole before (encode_invoke i l c (non_empty v)) after n
      → (t : State) → record { state = t; store = s.store } ≡ with_own T s i c → RequestPromise (perform T s (invoke i c l v (length before))) s s.store v before after (request_accepted t n)
  unfolding done
  invoke_sent i c l v h w t e =
      let k = invoke i c l v (length before) in
      let x = encode_invoke i l c (non_empty v) in
      let f = sent_fits in_apdu v x before (invoke_facts T s i v (length before) c l (all_pass T s k h)).sendable in
      is_sent T s k h v (record { state = t; store = s.store }) x (ap (λ (u : Held). accepted None u (x ∷ [])) (sym e)) before after n f w

  -- the octets at the front of the output are the APDU
  front_is : (x : List ℕ) → Fits x before → WrittenWhole before x after n → part after 0 n ≡ x
  front_is x f w =
      let k : n - 0 ≡ length x = omega (arith, counts before x after n w f) in
      (λ t. take (k t) (whole before x after n w f t)) ∙ take-append_seam x (drop (length x) before)

  -- what the end holds after an answer
  answered_as : (i : PeerId) (x : List ℕ) → Fits x before → WrittenWhole before x after n → (a : Answering) → Answers T (code_in (peer_records s) i.0) a → (y : List ℕ) → y ≡ part after 0 n
      → keep_answer a.keeps (without_peer s i.0) i y ≡ answering T s i.0 x
  answered_as i x f w a g y e = (λ j. keep_answer (g.keeps j) (without_peer s i.0) i ((e ∙ front_is x f w) j))

  module _ (i : PeerId) (a : Answering) (g : Answers T (code_in (peer_records s) i.0) a) (y : List ℕ) (e : y ≡ part after 0 n) (t : State) (o : List ℕ) (k : sound_held s ≡ true → record { state = t; store = o } ≡ keep_answer a.keeps (without_peer s i.0) i y) (v : List ℕ) where
    pub result_sent : None ≡ first (checks T s (result i.0 v (length before))) → WrittenWhole before (encode_result i.0 a.code (non_empty v)) after n → RequestPromise (perform T s (result i.0 v (length before))) s o v before after (request_accepted t n)
    unfolding done
    result_sent h w =
        let c = result i.0 v (length before) in
        let x = result_apdu s i.0 v in
        let w' : WrittenWhole before x after n = subst (λ (d : Code). WrittenWhole before (encode_result i.0 d (non_empty v)) after n) g.code w in
        let f = sent_fits in_body v x before (result_facts T s i.0 v (length before) (all_pass T s c h)).sendable in
        is_sent T s c h v (record { state = t; store = o }) x (ap (λ (u : Held). accepted None u (x ∷ [])) (sym (k (sound T s c h) ∙ answered_as i x f w' a g y e))) before after n f w'

    pub error_sent : (d : Code) → None ≡ first (checks T s (error i.0 d v (length before))) → WrittenWhole before (encode_error i.0 d (non_empty v)) after n → RequestPromise (perform T s (error i.0 d v (length before))) s o v before after (request_accepted t n)
    unfolding done
    error_sent d h w =
        let c = error i.0 d v (length before) in
        let x = encode_error i.0 d (non_empty v) in
        let f = sent_fits in_apdu v x before (error_facts T s i.0 v (length before) d (all_pass T s c h)).sendable in
        is_sent T s c h v (record { state = t; store = o }) x (ap (λ (u : Held). accepted None u (x ∷ [])) (sym (k (sound T s c h) ∙ answered_as i x f w a g y e))) before after n f w

  pub reject_done : (i p : ℕ) → None ≡ first (checks T s (reject i p (length before))) → WrittenWhole before (encode_reject (Some i) 0x81 p) after n → (d : Records) → (sound_records s.state.peer ≡ true → d ≡ retired s.state.peer i)
      → RequestPromise (perform T s (reject i p (length before))) s s.store [] before after (request_accepted (put_peer s.state d) n)
  unfolding done
  reject_done i p h w d e =
      let c = reject i p (length before) in
      let x = encode_reject (Some i) 0x81 p in
      let r = e (held_peer_sound s (sound T s c h)) in
      is_sent T s c h [] (in_state s (put_peer s.state d)) x (ap (λ (u : Records). accepted None (in_state s (put_peer s.state u)) (x ∷ [])) (sym r)) before after n (reject_sent T s i p before (all_pass T s c h)) w

-- forget writes nothing
pub forget_done : (T : List ℕ) (s : Held) (m : Invocation) → None ≡ first (checks T s (forgetting m)) → (t : State) → ((store : List ℕ) → sound_state s.state store ≡ true → t ≡ without_invocation s.state m) → RequestPromise (perform T s (forgetting m)) s s.store [] [] [] (request_accepted t 0)
unfolding done
forget_done T s m h t e =
    is_accepted T s (forgetting m) h [] (in_state s t) [] (is_done m ∙ ap (λ (u : State). accepted None (in_state s u) []) (sym (e s.store (sound T s (forgetting m) h)))) [] [] 0 refl refl
  where
    is_done : (m : Invocation) → done T s (forgetting m) ≡ accepted None (in_state s (without_invocation s.state m)) []
    is_done (Own i) = refl
    is_done (Peer i) = refl
