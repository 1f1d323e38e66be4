-- What a call writes and what a state then holds, as the invariant asks for it.
use Rattle.std.specs.Prelude.{Option, Some, None}
use Prim.Native.Nat.{ℕ, ◌-◌, ◌≤◌}
use mathlib.Core.Path.{◌≡◌, refl, ◌∙◌}
use mathlib.Core.Bool.{Bool, true, false, cond, not, ◌&&◌}
use mathlib.Core.List.{List, [], ◌∷◌, ◌++◌}
use native.Mathlib.Omega.{arith}
use lib.ListN.{length, get_or}
use lib.Dec.{leb}
use borrow.Author.Tests.{leb-true}
use Rattle.base.proofs.Tests.{and_left, and_right}
use Rattle.codes.specs.declared.Code.{Code}
use Rattle.codes.specs.declared.Code.TheVariants.{Local, Global}
use Rattle.codes.specs.Code.{code_right}
use Rattle.records.specs.declared.Record.{Record}
use Rattle.records.specs.declared.Records.{Records}
use Rattle.records.specs.Held.{Held, in_state, kept_answers}
use Rattle.records.specs.Limits.{octets, levels}
use Rattle.records.specs.Records.{view, added}
use Rattle.records.specs.State.{add_own, add_peer}
use Rattle.records.proofs.Soundness.{Sound, view_added}
use Rattle.apdu.proofs.FirstOctet.{first_result, first_reject}
use Rattle.apdu.proofs.FieldRoundTrip.{NumberFits, ValueFits, CodeFits}
use Rattle.protocol.specs.Call.{Refusal, plain, rejecting, reject_written}
use Rattle.protocol.specs.Check.{is_full, is_silent, own_records, peer_records, value_well, within_limits}
use Rattle.protocol.specs.Receive.{with_peer}
use Rattle.protocol.specs.Perform.{with_own}
use Rattle.protocol.specs.ShownWasGiven.{SmallNumber, SmallCode}
use Rattle.protocol.specs.Service.{enumerated, reply}
use Rattle.protocol.proofs.Steady.{Steady, room_left}
use Rattle.protocol.proofs.Invariant.{NoAnswer, NoInvoke}
use Rattle.protocol.proofs.Keeping.{Each}

-- ---- first octets

-- a refusal writes no Invoke and no answer
pub refusal_first : (r : Refusal) → Each NoInvoke (reject_written r) × Each NoAnswer (reject_written r)
refusal_first (plain n) = (tt, tt)
refusal_first (rejecting i kind p) =
    let e = first_reject i kind p in
    ((omega arith, tt), ((omega arith, omega arith), tt))

pub first_reply : (i : ℕ) (c : Code) (n : ℕ) → get_or (reply i c n) 0 0 ≡ 0xA2
unfolding reply
first_reply i c n = first_result i c (Some (enumerated n))

-- ---- the limits of what is written

module _ (down : ℕ) (v : Option (List ℕ)) (x : List ℕ) (h : within_limits down v x ≡ true) where
  pub limits_size : length x ≤ octets
  unfolding within_limits
  limits_size = leb-true (length x) octets (and_left _ _ h)

  limits_well : value_well (levels - down) v ≡ true
  unfolding within_limits
  limits_well = and_right (leb (length x) octets) _ h

value_fits : (d : ℕ) (v : Option (List ℕ)) → value_well d v ≡ true → ValueFits d v
unfolding value_well
value_fits d None h = tt
value_fits d (Some v) h = h

pub limits_value : (down : ℕ) (v : Option (List ℕ)) (x : List ℕ) → within_limits down v x ≡ true → ValueFits (levels - down) v
limits_value down v x h = value_fits (levels - down) v (limits_well down v x h)

pub number_fits : (l : Option ℕ) → SmallNumber l → NumberFits l
number_fits None h = tt
number_fits (Some i) h = h

pub code_fits : (c : Code) → SmallCode c → code_right c ≡ true → CodeFits c
unfolding code_right
code_fits (Local x) h r = h
code_fits (Global n) h r = r

-- ---- the records with a new one last, unless it is silent

side_with : (b : Bool) {d : Records} (r : Record) → Sound d → (not b && is_full (view d)) ≡ false → view (cond b d (added d r)) ≡ cond b (view d) (view d ++ (r ∷ []))
side_with true r h room = refl
side_with false {d} r h room = view_added h r (room_left [] false (view d) refl room)

module _ (T : List ℕ) (s : Held) (i : ℕ) (c : Code) (h : Steady T s) (form : code_right c ≡ true) where
  pub own_with : (not (is_silent T c) && is_full (own_records s)) ≡ false → own_records (with_own T s i c) ≡ cond (is_silent T c) (own_records s) (own_records s ++ (record { id = i; code = c } ∷ []))
  own_with room = go (is_silent T c) ∙ side_with (is_silent T c) (record { id = i; code = c }) h.own.sound room
    where
      go : (b : Bool) → own_records (cond b s (in_state s (add_own s.state (record { 0 = i }) c))) ≡ view (cond b s.state.own (added s.state.own (record { id = i; code = c })))
      go true = refl
      go false = refl

  pub peer_with : (not (is_silent T c) && is_full (peer_records s)) ≡ false → peer_records (with_peer T s i c) ≡ cond (is_silent T c) (peer_records s) (peer_records s ++ (record { id = i; code = c } ∷ []))
  peer_with room = go (is_silent T c) ∙ side_with (is_silent T c) (record { id = i; code = c }) h.peer.sound room
    where
      go : (b : Bool) → peer_records (cond b s (in_state s (add_peer s.state (record { 0 = i }) c))) ≡ view (cond b s.state.peer (added s.state.peer (record { id = i; code = c })))
      go true = refl
      go false = refl

-- what a record more does not change stays, also where none is added
stays : {A : Type 0} (f : Held → A) (b : Bool) {s t : Held} → f t ≡ f s → f (cond b s t) ≡ f s
stays f true e = refl
stays f false e = e

module _ (T : List ℕ) (s : Held) (i : ℕ) (c : Code) where
  pub own_beside : own_records (with_peer T s i c) ≡ own_records s
  own_beside = stays own_records (is_silent T c) refl

  pub peer_beside : peer_records (with_own T s i c) ≡ peer_records s
  peer_beside = stays peer_records (is_silent T c) refl

  pub kept_beside_peer : kept_answers (with_peer T s i c) ≡ kept_answers s
  kept_beside_peer = stays kept_answers (is_silent T c) refl

  pub kept_beside_own : kept_answers (with_own T s i c) ≡ kept_answers s
  kept_beside_own = stays kept_answers (is_silent T c) refl
