-- What a call leaves of the state and the store, as the code puts it together.
use Rattle.std.proofs.Common.{◌≡◌, ℕ, Bool, true, List, length, ap, sym, ◌∙◌}
use Rattle.codes.specs.declared.Code.{Code}
use Rattle.records.specs.declared.Kept.{Kept}
use Rattle.records.specs.declared.PeerId.{PeerId}
use Rattle.records.specs.declared.Records.{Records}
use Rattle.records.specs.Limits.{answers}
use Rattle.records.specs.Records.{sound_records, added, retired}
use Rattle.records.specs.State.{add_peer, put_peer, put_kept}
use Rattle.records.specs.Held.{Held, sound_held, in_state, keep_answer, drop_answer}
use Rattle.records.specs.Steps.{kept_next, store_next, kept_less, store_less}
use Rattle.records.proofs.PackedLaws.{store_of_test}
use Rattle.records.proofs.HeldLaws.{held_kept, held_dropped}
use Rattle.records.proofs.Soundness.{held_kept_sound, held_peer_sound}
use Rattle.protocol.specs.Perform.{without_peer}

-- a sound state beside its store, where there are eight places of kept answers; k and o are what is kept and the store then
module _ (s : Held) (p : length s.state.kept.places ≡ answers) (h : sound_held s ≡ true) (k : Kept) (o : List ℕ) (i : PeerId) where
  pub answer_dropped : k ≡ kept_less s.state.kept s.store i.0 → o ≡ store_less s.state.kept s.store i.0 → record { state = put_kept s.state k; store = o } ≡ drop_answer s i
  answer_dropped f g = (λ x. record { state = put_kept s.state (f x); store = g x }) ∙ held_dropped s (store_of_test _ s.state.kept s.store p (held_kept_sound s h)) i.0

  -- the same with a peer record more
  pub answer_added : (c : Code) (d : Records) → d ≡ added s.state.peer (record { id = i.0; code = c }) → k ≡ kept_less s.state.kept s.store i.0 → o ≡ store_less s.state.kept s.store i.0
      → record { state = put_kept (put_peer s.state d) k; store = o } ≡ drop_answer (in_state s (add_peer s.state i c)) i
  answer_added c d e f g =
      (λ x. record { state = put_kept (put_peer s.state (e x)) (f x); store = g x }) ∙ held_dropped (in_state s (add_peer s.state i c)) (store_of_test _ s.state.kept s.store p (held_kept_sound s h)) i.0

  -- a peer record leaves, and an answer is kept
  pub answer_kept : (x : List ℕ) (keeps : Bool) → keeps ≡ true → (d : Records) → (sound_records s.state.peer ≡ true → d ≡ retired s.state.peer i.0)
      → k ≡ kept_next s.state.kept s.store i.0 x → o ≡ store_next s.state.kept s.store x
      → record { state = put_kept (put_peer s.state d) k; store = o } ≡ keep_answer keeps (without_peer s i.0) i x
  answer_kept x keeps b d e f g =
      let r = e (held_peer_sound s h) in
      (λ y. record { state = put_kept (put_peer s.state (r y)) (f y); store = g y })
      ∙ held_kept (without_peer s i.0) (store_of_test _ s.state.kept s.store p (held_kept_sound s h)) i.0 x
      ∙ ap (λ (t : Bool). keep_answer t (without_peer s i.0) i x) (sym b)
