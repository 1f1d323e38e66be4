-- A turn of the walk: the entry that stands there decides, or the walk goes on behind it.
use Rattle.std.specs.Prelude.{Option, Some, None, Result, Ok, Err}
use Prim.Native.Nat.{ℕ, suc, ◌+◌, ◌-◌, ◌≤◌, ◌<◌}
use mathlib.Core.Path.{◌≡◌, refl, sym, ap, ◌∙◌, subst}
use mathlib.Core.Logic.{◌⊎◌, inl, inr}
use mathlib.Core.Bool.{Bool, true, false, cond, ◌&&◌, false≢true}
use mathlib.Core.List.{List, [], ◌∷◌}
use native.Mathlib.Omega.{arith}
use lib.ListN.{length, get_or}
use Rattle.base.proofs.Tests.{and_left, and_false_left}
use Rattle.base.proofs.Numbers.{less_or_not}
use Rattle.base.specs.Octets.{part}
use Rattle.records.specs.declared.State.{State}
use Rattle.records.specs.State.{fresh}
use Rattle.records.specs.Held.{Held, fresh_held}
use Rattle.records.specs.Limits.{octets}
use Rattle.optable.specs.Validity.{valid}
use Rattle.apdu.specs.Parse.{parse}
use Rattle.protocol.specs.declared.Received.{Received as Taken}
use Rattle.protocol.specs.Call.{receive, octets_by, written_by, end_to_end, held_after}
use Rattle.protocol.specs.Perform.{perform}
use Rattle.protocol.specs.Reading.{ReceivePromise}
use Rattle.capture.specs.declared.kind.Kind.{Kind}
use Rattle.capture.specs.declared.kind.Kind.TheVariants.{Received, Sent, Forget}
use Rattle.capture.specs.Format.{count, valid as valid_capture}
use Rattle.capture.specs.declared.Entry.{Entry as Listed}
use Rattle.capture.specs.Entry.{kind_at, octets_at, following}
use Rattle.capture.proofs.Answers.{no_entry, one_following}
use Rattle.player.specs.declared.written.Mismatch.{Mismatch}
use Rattle.player.specs.declared.turn.Turn.{Turn}
use Rattle.protocol.specs.declared.Requested.{Requested}
use Rattle.player.specs.declared.Report.{Report}
use Rattle.player.specs.declared.Report.TheVariants.{Agree, Differs}
use Rattle.player.specs.declared.Refusal.TheVariants.{InvalidTable, MalformedCapture}
use Rattle.player.specs.Play.{request_of, forget_of, same_octets, is_sent, Step, differs, goes, asked, played_as, play_one, Verdict, differs_at, at_end, behind_step, play, replay}
use Rattle.player.specs.Reading.{read_report, report_verdict, walk_verdict, held_by, beside, read_requested, says_finished, Writes, onward, Leads, Turned, Led}
use Rattle.player.proofs.SameLaws.{same_said}
use Rattle.player.proofs.AskingLaws.{front}
use Rattle.player.proofs.WrittenLaws.{receive_writes, written_none, split}

-- ---- whether an entry was sent with these octets

pub not_sent : (k found : Option Kind) (b : Bool) → k ≡ found → is_sent found ≡ false → false ≡ (is_sent k && b)
not_sent k found b e f = sym (and_false_left (is_sent k) b (rw e f))

pub sent_same : (k : Option Kind) (r : Bool) (w x y : List ℕ) → k ≡ Some Sent → y ≡ x → (r ≡ true → w ≡ y) × (w ≡ y → r ≡ true) → r ≡ (is_sent k && same_octets w x)
sent_same k r w x y e f h = rw (e, ← f) (same_said r w y h)

-- ---- behind an entry whose call agrees, or at it

module _ (t : List ℕ) (k : ℕ) (o : Option Requested) (out x store : List ℕ) where
  pub led_nowhere : o ≡ None → Led t k store (read_requested o store out x) (Err (record { 0 = k }))
  unfolding read_requested Led
  led_nowhere e = (rw e, refl)

  module _ (r : Requested) (e : o ≡ Some r) (b : Bool) (said : (s : Held) → cond b (goes s []) differs ≡ held_by r.outcome s (part out 0 r.written) x) where
    pub led_behind : (n : ℕ) → b ≡ true → n ≡ following t k → Led t k store (read_requested o store out x) (Ok (record { state = r.state; at = n }))
    unfolding read_requested Led
    led_behind n f g = (rw e (sym (said (beside r.state store)) ∙ rw f refl), g)

    pub led_at : b ≡ false → Led t k store (read_requested o store out x) (Err (record { 0 = k }))
    unfolding read_requested Led
    led_at f = (rw e (sym (said (beside r.state store)) ∙ rw f refl), refl)

-- ---- the walk's next step

module _ (T t : List ℕ) where
  onward_step : (k : ℕ) (s : Held) (l : List (List ℕ)) → k < count t → onward T t k s l ≡ behind_step (λ s' l'. onward T t (k + 1) s' l') k (play_one T s l (kind_at t k) (octets_at t k))
  unfolding onward play
  onward_step k s l h = let e : count t - k ≡ suc (count t - (k + 1)) = omega arith in rw e

  onward_end : (k : ℕ) (s : Held) (l : List (List ℕ)) → count t ≤ k → onward T t k s l ≡ at_end k l
  unfolding onward play
  onward_end k s l h = let e : count t - k ≡ 0 = omega arith in rw e

  pub onward_start : (s : State) (store : List ℕ) → s ≡ fresh → store ≡ fresh_held.store → play T t (count t) 0 fresh_held [] ≡ onward T t 0 (beside s store) []
  unfolding onward
  onward_start s store f g = let e : count t - 0 ≡ count t = omega arith in rw (f, g, e)

  -- ---- a place where an APDU must stand

  module _ (k : ℕ) (s : Held) (w : List ℕ) (l : List (List ℕ)) where
    sent_within : is_sent (kind_at t k) ≡ true → k < count t
    sent_within e = go (less_or_not k (count t))
      where
        go : (k < count t) ⊎ (count t ≤ k) → k < count t
        go (inl h) = h
        go (inr h) = absurd (false≢true (ap (λ (x : Listed). is_sent x.kind) (no_entry t k h) ∙ e))

    pub stands : (n : ℕ) → n ≡ following t k → (is_sent (kind_at t k) && same_octets w (octets_at t k)) ≡ true → Leads T t k (onward T t k s (w ∷ l)) s l (Ok n)
    unfolding play_one Leads
    stands n f e =
        let h : k < count t = sent_within (and_left (is_sent (kind_at t k)) (same_octets w (octets_at t k)) e) in
        let g : n ≡ k + 1 = f ∙ sym (one_following t k h) in
        rw g (onward_step k s (w ∷ l) h ∙ rw e, omega arith, λ _. omega arith)

    missing : (is_sent (kind_at t k) && same_octets w (octets_at t k)) ≡ false → (k < count t) ⊎ (count t ≤ k) → onward T t k s (w ∷ l) ≡ differs_at k
    unfolding play_one
    missing e (inl h) = onward_step k s (w ∷ l) h ∙ rw e
    missing e (inr h) = onward_end k s (w ∷ l) h

    pub misses : (is_sent (kind_at t k) && same_octets w (octets_at t k)) ≡ false → Leads T t k (onward T t k s (w ∷ l)) s l (Err (record { 0 = k }))
    unfolding Leads
    misses e = missing e (less_or_not k (count t))

  -- ---- the place after a received entry, the octets w having been written

  module _ (k : ℕ) (s : Held) (w : List ℕ) (l : List (List ℕ)) (h : Writes l) (e : w ≡ end_to_end l) where
    pub answered_none : length w ≡ 0 → Leads T t k (onward T t k s l) s [] (Ok k)
    unfolding Leads
    answered_none z = rw (written_none w h e z) (refl, omega arith, λ g. g)

    -- the first of them, y, leads to the place p
    module _ (y : List ℕ) (end : ℕ) (v : y ≡ part w 0 end) (p : Result ℕ Mismatch) (first : (m : List (List ℕ)) → Leads T t k (onward T t k s (y ∷ m)) s m p) (f : end ≡ 2 + get_or w 1 0) (z : length w ≡ 0 → ⊥) where
      pub answered_first : (m : Mismatch) → p ≡ Err m → Leads T t k (onward T t k s l) s [] (Err m)
      unfolding Leads
      answered_first m d =
          let c = split w y end h e v f z in
          rw c.whole (subst (λ q. Leads T t k (onward T t k s (y ∷ c.behind)) s c.behind q) d (first c.behind))

      module _ (n : ℕ) (d : p ≡ Ok n) where
        pub answered_one : says_finished y ≡ false → Leads T t k (onward T t k s l) s [] (Ok n)
        answered_one b =
            let c = split w y end h e v f z in
            rw (c.whole, c.alone b) (subst (λ q. Leads T t k (onward T t k s (y ∷ [])) s [] q) d (first []))

        behind : (r : List ℕ) → Leads T t k (onward T t k s (y ∷ r ∷ [])) s (r ∷ []) (Ok n) → (q : Result ℕ Mismatch) → Leads T t n (onward T t n s (r ∷ [])) s [] q → Leads T t k (onward T t k s (y ∷ r ∷ [])) s [] q
        unfolding Leads
        behind r i (Ok m) g = (i.0 ∙ g.0, omega (arith, i.1, g.1), λ a. g.2 (i.2 a))
        behind r i (Err m) g = i.0 ∙ g

        pub answered_two : says_finished y ≡ true → (r : List ℕ) → r ≡ part w end (length w) → (q : Result ℕ Mismatch) → Leads T t n (onward T t n s (r ∷ [])) s [] q
            → Leads T t k (onward T t k s l) s [] q
        answered_two b r u q g =
            let c = split w y end h e v f z in
            rw (c.whole, c.kept b, ← u) (behind r (subst (λ q. Leads T t k (onward T t k s (y ∷ r ∷ [])) s (r ∷ []) q) d (first (r ∷ []))) q g)

  -- ---- an entry, with no APDU awaited

  module _ (k : ℕ) (s : Held) (there : k < count t) where
    entry_step : (K : Option Kind) (g : Step) → kind_at t k ≡ K → played_as T s K (octets_at t k) ≡ g → onward T t k s [] ≡ behind_step (λ s' l'. onward T t (k + 1) s' l') k g
    unfolding play_one
    entry_step K g e f = onward_step k s [] there ∙ rw (e, f)

    turned : (v v' : Verdict) (k' : ℕ) (store : List ℕ) (q : Result Turn Mismatch) → v ≡ v' → Turned T t k' v' store q → Turned T t k' v store q
    turned v v' k' store q e h = rw e h

    pub received_turns : (store : List ℕ) (q : Result Turn Mismatch) → kind_at t k ≡ Some Received
        → Turned T t (following t k) (onward T t (following t k) (held_after s (perform T s (receive (octets_at t k) octets))) (written_by (perform T s (receive (octets_at t k) octets)))) store q
        → Turned T t (k + 1) (onward T t k s []) store q
    unfolding played_as Turned
    received_turns store q e h =
        let g : k + 1 ≡ following t k = one_following t k there in
        rw g (turned _ _ _ store q (entry_step (Some Received) _ e refl ∙ rw g) h)

    -- a played entry that was no received one leads behind it, or differs
    turns : (K : Option Kind) (g : Step) → kind_at t k ≡ K → played_as T s K (octets_at t k) ≡ g → (store : List ℕ) (q : Result Turn Mismatch) → Led t k store g q → Turned T t (k + 1) (onward T t k s []) store q
    unfolding Led Turned
    turns K g e f store (Ok q) h =
        let there' : q.at ≡ k + 1 = h.1 ∙ sym (one_following t k there) in
        (entry_step K g e f ∙ rw (h.0, there') refl, omega arith, λ _. omega arith)
    turns K g e f store (Err m) h = entry_step K g e f ∙ rw (h.0, h.1) refl

    module _ (o : Option Requested) (x store : List ℕ) (q : Result Turn Mismatch) where
      pub sent_turns : (out : List ℕ) → kind_at t k ≡ Some Sent → x ≡ octets_at t k → read_requested o store out x ≡ asked T s x (request_of (parse x)) → Led t k store (read_requested o store out x) q
          → Turned T t (k + 1) (onward T t k s []) store q
      unfolding played_as
      sent_turns out e f h g = turns (Some Sent) _ e (rw (← f) (sym h)) store q g

      pub forget_turns : kind_at t k ≡ Some Forget → x ≡ octets_at t k → read_requested o store [] [] ≡ asked T s [] (forget_of x) → Led t k store (read_requested o store [] []) q → Turned T t (k + 1) (onward T t k s []) store q
      unfolding played_as
      forget_turns e f h g = turns (Some Forget) _ e (rw (← f) (sym h)) store q g

    pub nothing_turns : (store : List ℕ) → kind_at t k ≡ None → Turned T t (k + 1) (onward T t k s []) store (Err (record { 0 = k }))
    unfolding played_as Turned
    nothing_turns store e = entry_step None differs e refl

  -- what receive left and wrote, and where the walk goes on
  module _ (s : Held) (x store before after : List ℕ) (r : Taken) (h : ReceivePromise (perform T s (receive x (length before))) s store x before after r) (room : length before ≡ octets) (w : List ℕ) (v : w ≡ part after 0 r.written) (p : Result ℕ Mismatch) (n m : ℕ) (e : n ≡ m)
      (g : (h : Held) (l : List (List ℕ)) → Writes l → w ≡ end_to_end l → Leads T t n (onward T t n h l) h [] p) where
    leads : Leads T t m (onward T t m (held_after s (perform T s (receive x octets))) (written_by (perform T s (receive x octets)))) (beside r.state store) [] p
    leads =
        let a = perform T s (receive x (length before)) in
        let wrote : w ≡ octets_by a = v ∙ front _ before after r.written h.written in
        rw (← e, ← room, ← h.holds) (g (beside r.state store) (written_by a) (receive_writes T s x (length before)) wrote)

    pub received_goes : (k : ℕ) → p ≡ Ok k → Turned T t m (onward T t m (held_after s (perform T s (receive x octets))) (written_by (perform T s (receive x octets)))) store (Ok (record { state = r.state; at = k }))
    unfolding Leads Turned
    received_goes k d = subst (λ q. Leads T t m (onward T t m (held_after s (perform T s (receive x octets))) (written_by (perform T s (receive x octets)))) (beside r.state store) [] q) d leads

    pub received_differs : (k : Mismatch) → p ≡ Err k → Turned T t m (onward T t m (held_after s (perform T s (receive x octets))) (written_by (perform T s (receive x octets)))) store (Err k)
    unfolding Leads Turned
    received_differs k d = subst (λ q. Leads T t m (onward T t m (held_after s (perform T s (receive x octets))) (written_by (perform T s (receive x octets)))) (beside r.state store) [] q) d leads

  -- ---- the walk

  module _ (v : Verdict) (k : ℕ) (s : Held) (so : v ≡ onward T t k s []) (store : List ℕ) (r : Result Turn Mismatch) (h : Turned T t (k + 1) (onward T t k s []) store r) where
    pub turn_differs : (m : Mismatch) → r ≡ Err m → walk_verdict (Err m) ≡ v
    unfolding Turned
    turn_differs m e = sym (so ∙ subst (λ q. Turned T t (k + 1) (onward T t k s []) store q) e h)

    module _ (q : Turn) (e : r ≡ Ok q) where
      goes_on : Turned T t (k + 1) (onward T t k s []) store (Ok q)
      goes_on = subst (λ q. Turned T t (k + 1) (onward T t k s []) store q) e h

      pub turn_goes : v ≡ onward T t q.at (beside q.state store) []
      unfolding Turned
      turn_goes = so ∙ goes_on.0

      pub turn_forward : k + 1 ≤ q.at
      unfolding Turned
      turn_forward = goes_on.1

      pub turn_within : k + 1 ≤ count t → q.at ≤ count t
      unfolding Turned
      turn_within = goes_on.2

  pub walk_ends : (v : Verdict) (k n : ℕ) (s : Held) → v ≡ onward T t k s [] → n ≡ k → count t ≤ k → walk_verdict (Ok n) ≡ v
  walk_ends v k n s so e h = sym (so ∙ onward_end k s [] h ∙ rw e refl)

-- ---- the whole

pub agrees_by : (v : Verdict) (r : Result ℕ Mismatch) (n : ℕ) → walk_verdict r ≡ v → r ≡ Ok n → report_verdict (Agree n) ≡ v
agrees_by v r n h e = subst (λ q. walk_verdict q ≡ v) e h

pub differs_by : (v : Verdict) (r : Result ℕ Mismatch) (k : ℕ) (m : Mismatch) → walk_verdict r ≡ v → r ≡ Err m → k ≡ m.0 → report_verdict (Differs k) ≡ v
differs_by v r k m h e f = rw f (subst (λ q. walk_verdict q ≡ v) e h)

pub table_wrong : (T t : List ℕ) → valid T ≡ false → read_report (Err InvalidTable) ≡ replay T t
unfolding read_report replay
table_wrong T t e = rw e refl

pub capture_wrong : (T t : List ℕ) → valid T ≡ true → valid_capture t ≡ false → read_report (Err MalformedCapture) ≡ replay T t
unfolding read_report replay
capture_wrong T t e f = rw (e, f) refl

pub both_right : (T t : List ℕ) (r : Report) → valid T ≡ true → valid_capture t ≡ true → report_verdict r ≡ play T t (count t) 0 fresh_held [] → read_report (Ok r) ≡ replay T t
unfolding read_report replay
both_right T t r e f g = rw (e, f) g
