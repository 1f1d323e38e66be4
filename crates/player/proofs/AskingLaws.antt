-- An entry's call is that of its APDU, or of its forget, and what it left and wrote decides.
use Rattle.std.specs.Prelude.{Option, Some, None, Result as Returned, Ok, Err}
use Prim.Native.Nat.{ℕ, ◌-◌}
use mathlib.Core.Path.{◌≡◌, refl, sym, ap, ◌∙◌}
use mathlib.Core.Bool.{Bool, true, cond}
use mathlib.Core.List.{List, [], ◌∷◌}
use native.Mathlib.Omega.{arith}
use lib.ListN.{length, take, drop}
use lib.Seq.{take_at}
use types.Run.{OneOf}
use denote.Enum.Declared.{tag_of}
use Rattle.base.proofs.Keys.{no_key}
use Rattle.base.specs.Octets.{part}
use Rattle.codes.specs.declared.Code.{Code}
use Rattle.records.specs.declared.OwnId.{OwnId}
use Rattle.records.specs.declared.PeerId.{PeerId}
use Rattle.records.specs.Held.{Held}
use Rattle.records.specs.Limits.{octets}
use Rattle.apdu.specs.declared.Body.{Body}
use Rattle.apdu.specs.declared.Span.{Span}
use Rattle.apdu.specs.declared.Parsed.{Parsed}
use Rattle.apdu.specs.declared.Parsed.TheVariants.{BadlyStructured, Unrecognized, Mistyped, Invoke, Result, Error, InvokeReject, ResultReject, ErrorReject, GeneralReject}
use Rattle.apdu.specs.contracts.Parsed as parsed
use Rattle.apdu.specs.Parse.{body_value, parse}
use Rattle.apdu.specs.Reading.{read_own_link, read_peer_link, read_span, read_value, read_body, read_parsed}
use Rattle.protocol.specs.declared.Requested.{Requested}
use Rattle.protocol.specs.declared.Refusal.{Refusal}
use Rattle.protocol.specs.Call.{Call, invoke, result, error, reject, Answer, accepted, refused, octets_by, written_by, held_after}
use Rattle.protocol.specs.Perform.{perform}
use Rattle.protocol.specs.Reading.{read_outcome, Written, RequestPromise}
use Rattle.capture.specs.declared.side.Side.{Side}
use Rattle.capture.specs.declared.side.Side.TheVariants.{Other}
use Rattle.capture.specs.Entry.{side_of, id_of}
use Rattle.player.specs.Play.{value_octets, request_of, forget_by, forget_of, differs, goes, agreed, asked}
use Rattle.player.specs.Reading.{held_by, beside, read_requested}
use Rattle.player.proofs.SameLaws.{same_said}

-- ---- what a call left and wrote

part_front : (l : List ℕ) (n : ℕ) → part l 0 n ≡ take n l
part_front l n = let e : n - 0 ≡ n = omega arith in ap (λ (m : ℕ). take m l) e

-- what stands at the front of the output is what was written
pub front : (a : Answer) (before after : List ℕ) (n : ℕ) → Written a before after n → part after 0 n ≡ octets_by a
front a before after n h =
    part_front after n ∙ ap (take n) h.octets ∙ take_at (octets_by a) (drop (length (octets_by a)) before) n (sym h.counted)

-- what the answer of a call says is what the definition says
held_right : (a : Answer) (s t : Held) (w x : List ℕ) (o : Returned (Unit {0}) Refusal) → read_outcome o (held_after s a) (written_by a) ≡ a → t ≡ held_after s a → w ≡ octets_by a → held_by o t w x ≡ agreed x a
unfolding read_outcome held_by agreed
held_right (accepted i u v) s t w x (Ok nothing) e f g = rw (f, g) refl
held_right (refused n) s t w x (Ok nothing) e f g = let z : ◌≡◌ {A = ℕ} 0 1 = cc in absurd (omega arith)
held_right (accepted i u v) s t w x (Err why) e f g = let z : ◌≡◌ {A = ℕ} 0 1 = cc in absurd (omega arith)
held_right (refused n) s t w x (Err why) e f g = refl

pub agrees_said : (b : Bool) (w x : List ℕ) (s : Held) (o : Returned (Unit {0}) Refusal) → o ≡ Ok tt → (b ≡ true → w ≡ x) × (w ≡ x → b ≡ true) → cond b (goes s []) differs ≡ held_by o s w x
unfolding held_by
agrees_said b w x s o e h = rw (e, same_said b w x h) refl

pub refused_said : (why : Refusal) (w x : List ℕ) (s : Held) (o : Returned (Unit {0}) Refusal) → o ≡ Err why → differs ≡ held_by o s w x
unfolding held_by
refused_said why w x s o e = rw e

-- ---- values

pub value_at : (x : List ℕ) (v : Option Span) (p : Span) → v ≡ Some p → (read_span x p).octets ≡ value_octets (read_value x v)
unfolding read_value
value_at x v p e = rw e

pub value_none : (x : List ℕ) (v : Option Span) → v ≡ None → [] ≡ value_octets (read_value x v)
unfolding read_value
value_none x v e = rw e

-- ---- the call that an entry fits

module _ (T : List ℕ) (s : Held) (x : List ℕ) (o : Option Call) (r : Requested) where
  pub asks : (c : Call) (store given before after : List ℕ) → o ≡ Some c → RequestPromise (perform T s c) s store given before after r → read_requested (Some r) store after x ≡ asked T s x o
  unfolding asked read_requested
  asks c store given before after e h =
      rw e (held_right (perform T s c) s (beside r.state store) (part after 0 r.written) x r.outcome h.answers h.holds (front _ before after r.written h.written))

pub asks_nothing : (T : List ℕ) (s : Held) (x : List ℕ) (o : Option Call) (store out : List ℕ) → o ≡ None → read_requested None store out x ≡ asked T s x o
unfolding asked read_requested
asks_nothing T s x o store out e = rw e refl

-- what was read, p, as a request
module _ (x : List ℕ) (p : Parsed) (said : read_parsed x p ≡ parse x) where
  pub invoke_request : (i : PeerId) (l : Option OwnId) (o : Option Code) (c : Code) (v : Option Span) (k : Option PeerId) (g : List ℕ) (n : ℕ) → p ≡ Invoke i l o v → o ≡ Some c → read_peer_link k ≡ read_own_link l → g ≡ value_octets (read_value x v) → n ≡ octets
      → request_of (parse x) ≡ Some (invoke i.0 c (read_peer_link k) g n)
  unfolding read_parsed request_of
  invoke_request i l o c v k g n e oc kl gv room = rw (← said, e, oc) (rw (kl, gv, room) refl)

  pub result_request : (i : OwnId) (b : Option Body) (v : Option Span) (g : List ℕ) (n : ℕ) → p ≡ Result i b → read_value x v ≡ body_value (read_body x b) → g ≡ value_octets (read_value x v) → n ≡ octets → request_of (parse x) ≡ Some (result i.0 g n)
  unfolding read_parsed request_of
  result_request i b v g n e bv gv room = rw (← said, e) (rw (gv, bv, room) refl)

  pub error_request : (i : OwnId) (o : Option Code) (c : Code) (v : Option Span) (g : List ℕ) (n : ℕ) → p ≡ Error i o v → o ≡ Some c → g ≡ value_octets (read_value x v) → n ≡ octets → request_of (parse x) ≡ Some (error i.0 c g n)
  unfolding read_parsed request_of
  error_request i o c v g n e oc gv room = rw (← said, e, oc) (rw (gv, room) refl)

  pub reject_request : (i : OwnId) (m n : ℕ) → p ≡ InvokeReject i m → n ≡ octets → request_of (parse x) ≡ Some (reject i.0 m n)
  unfolding read_parsed request_of
  reject_request i m n e room = rw (← said, e) (rw room refl)

  pub other_invoke : (i : PeerId) (l : Option OwnId) (o : Option Code) (v : Option Span) → p ≡ Invoke i l o v → o ≡ None → request_of (parse x) ≡ None
  unfolding read_parsed request_of
  other_invoke i l o v e oc = rw (← said, e, oc) refl

  pub other_error : (i : OwnId) (o : Option Code) (v : Option Span) → p ≡ Error i o v → o ≡ None → request_of (parse x) ≡ None
  unfolding read_parsed request_of
  other_error i o v e oc = rw (← said, e, oc) refl

-- their tags, behind the first
abbrev others : List ℕ
others = 1 ∷ 2 ∷ 7 ∷ 8 ∷ 9 ∷ []

-- what is no Invoke, Result, Error or Reject of an invocation is no request
no_request : (x : List ℕ) (p : Parsed) → OneOf (0 ∷ others) (tag_of parsed.the_type p) → request_of (read_parsed x p) ≡ None
unfolding read_parsed request_of
no_request x (BadlyStructured p) h = refl
no_request x Unrecognized h = refl
no_request x (Mistyped i) h = refl
no_request x (Invoke i l c v) h = absurd (no_key 0 others 3 refl h)
no_request x (Result i b) h = absurd (no_key 0 others 4 refl h)
no_request x (Error i c v) h = absurd (no_key 0 others 5 refl h)
no_request x (InvokeReject i m) h = absurd (no_key 0 others 6 refl h)
no_request x (ResultReject i m) h = refl
no_request x (ErrorReject i m) h = refl
no_request x (GeneralReject None m) h = refl
no_request x (GeneralReject (Some i) m) h = refl

pub reads_no_request : (x : List ℕ) (p : Parsed) → read_parsed x p ≡ parse x → OneOf (0 ∷ others) (tag_of parsed.the_type p) → request_of (parse x) ≡ None
reads_no_request x p said h = ap request_of (sym said) ∙ no_request x p h

-- ---- a forget

pub forgets : (x : List ℕ) (side : Side) (i : ℕ) → side_of x ≡ side → i ≡ id_of x → forget_of x ≡ forget_by side i
unfolding forget_of
forgets x side i e f = rw (e, f) refl

pub no_forget : (x : List ℕ) (n : ℕ) → side_of x ≡ Other n → forget_of x ≡ None
unfolding forget_of
no_forget x n e = rw e refl
