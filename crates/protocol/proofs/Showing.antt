-- What the theorem claims of a call at the kiosk follows from the invariant.
use Rattle.std.specs.Prelude.{Option, Some, None}
use Prim.Native.Nat.{ℕ}
use mathlib.Core.Path.{◌≡◌, refl, sym, subst, ap, ◌∙◌}
use mathlib.Core.Bool.{Bool, true, false, cond}
use mathlib.Core.List.{List, Memᴰ as In}
use mathlib.Core.Logic.{◌⊎◌, inl, inr}
use native.Mathlib.Omega.{arith}
use lib.Dec.{eqb}
use Rattle.codes.specs.declared.Code.{Code}
use Rattle.records.specs.Held.{Held}
use Rattle.records.specs.Records.{member}
use Rattle.optable.specs.declared.Service.{Service}
use Rattle.optable.specs.declared.Service.TheVariants.{Probe, Acknowledge, Ordinary}
use Rattle.optable.specs.Service.{service_of}
use Rattle.apdu.specs.Field.{Part, octets_of}
use Rattle.apdu.specs.Parse.{body_value, Apdu, badly_structured, unrecognized, mistyped, parse, invoke as Invoke, result as Result, error as Error, reject as Reject}
use Rattle.apdu.proofs.FirstOctet.{kind_octet, first_read}
use Rattle.apdu.proofs.RoundTrip.{body_of}
use Rattle.protocol.specs.Call.{receive, rejected_p, rejected_u, indicated_by}
use Rattle.protocol.specs.Check.{code_in, own_records}
use Rattle.protocol.specs.Receive.{field_code, invoke_checks, invoke_done, result_checks, error_checks, receive_apdu}
use Rattle.protocol.specs.Perform.{checks, done, perform}
use Rattle.protocol.specs.Book.{controller, a_result, an_error, Given, wired, World, shown_by}
use Rattle.protocol.specs.ShownWasGiven.{WasGiven}
use Rattle.protocol.proofs.Checks.{settle}
use Rattle.protocol.proofs.Facts.{arrived_result, arrived_error}
use Rattle.protocol.proofs.Ids.{in_code, one_code}
use Rattle.protocol.proofs.Invariant.{Sayable, ToldResult, ToldError, Agrees}

-- ---- what a received result or error shows, with the record's operation code

abbrev pub reads_as : Apdu → Code → Option Given
reads_as (badly_structured p) c = None
reads_as unrecognized c = None
reads_as (mistyped i) c = None
reads_as (Invoke i l d v) c = None
reads_as (Result i b) c = Some (record { id = i; operation = c; kind = a_result; error = None; value = octets_of (body_value b) })
reads_as (Error i e v) c = Some (record { id = i; operation = c; kind = an_error; error = Some (field_code e); value = octets_of v })
reads_as (Reject i kind p) c = None

some_given : {g h : Given} → ◌≡◌ {A = Option Given} (Some g) (Some h) → g ≡ h
some_given e = cc

none_given : {A : Type 0} {g : Given} → ◌≡◌ {A = Option Given} None (Some g) → A
none_given {A} {g} e = let z : ◌≡◌ {A = ℕ} 0 1 = cc in absurd (omega arith)

record Reads (p : Apdu) (c : Code) (g : Given) : Type 0 where
  operation : g.operation ≡ c
  same_id : (d : Code) (h : Given) → reads_as p d ≡ Some h → h.id ≡ g.id
  kind : (kind_octet p ≡ 0xA2) ⊎ (kind_octet p ≡ 0xA3)

reads_facts : (p : Apdu) (c : Code) (g : Given) → reads_as p c ≡ Some g → Reads p c g
reads_facts (badly_structured p) c g e = none_given e
reads_facts unrecognized c g e = none_given e
reads_facts (mistyped i) c g e = none_given e
reads_facts (Invoke i l d v) c g e = none_given e
reads_facts (Result i b) c g e = record {
  operation = ap (λ (h : Given). h.operation) (sym (some_given e));
  same_id = λ d h q. ap (λ (k : Given). k.id) (sym (some_given q)) ∙ ap (λ (k : Given). k.id) (some_given e);
  kind = inl refl;
}
reads_facts (Error i d v) c g e = record {
  operation = ap (λ (h : Given). h.operation) (sym (some_given e));
  same_id = λ d h q. ap (λ (k : Given). k.id) (sym (some_given q)) ∙ ap (λ (k : Given). k.id) (some_given e);
  kind = inr refl;
}
reads_facts (Reject i kind p) c g e = none_given e

given_made : (g : Given) {id : ℕ} {op : Code} (k : _) {e : Option Code} {v : Option (List ℕ)} → g.id ≡ id → g.operation ≡ op → g.kind ≡ k → g.error ≡ e → g.value ≡ v
    → record { id = id; operation = op; kind = k; error = e; value = v } ≡ g
given_made g k a b c d e = λ i. record { id = sym a i; operation = sym b i; kind = sym c i; error = sym d i; value = sym e i }

pub body_value_lem : (c : Code) (v : Option Part) → body_value (body_of c v) ≡ v
body_value_lem c None = refl
body_value_lem c (Some v) = refl

-- an answer of the book shows what was given
told_reads : {N : List ℕ} {p : Apdu} (g : Given) → ToldResult N p g ⊎ ToldError N p g → reads_as p g.operation ≡ Some g
told_reads g (inl t) = rw t.reads (ap {B = Option Given} (λ h. Some h) (given_made g a_result refl refl t.kind t.error (sym (ap octets_of (body_value_lem g.operation t.shown) ∙ t.octets))))
told_reads g (inr t) = rw t.reads (ap {B = Option Given} (λ h. Some h) (given_made g an_error refl refl t.kind t.error (sym t.octets)))

-- ---- what the kiosk shows was given

record Shows (s : Held) (p : Apdu) (g : Given) : Type 0 where
  live : member g.id (own_records s) ≡ true
  reads : reads_as p (code_in (own_records s) g.id) ≡ Some g

-- a received Invoke shows none
invoked_none : (O : List ℕ) (s : Held) (i : ℕ) (l : Option ℕ) (c : Code) (v : Option Part) (q : Service) → shown_by (indicated_by (invoke_done O s i l c v q)) ≡ None
unfolding invoke_done
invoked_none O s i l c v Probe = refl
invoked_none O s i l c v Acknowledge = refl
invoked_none O s i l c v Ordinary = refl

shows_in : (O : List ℕ) (s : Held) (x : List ℕ) (p : Apdu) (g : Given) → shown_by (indicated_by (receive_apdu O s x p)) ≡ Some g → Shows s p g
unfolding receive_apdu
shows_in O s x (badly_structured p) g h = none_given h
shows_in O s x unrecognized g h = none_given h
shows_in O s x (mistyped i) g h = none_given h
shows_in O s x (Invoke i l c v) g h =
    settle (λ a. shown_by (indicated_by a) ≡ Some g → Shows s (Invoke i l c v) g) (invoke_checks O s i l c v) _ (λ _ q. none_given q)
    (λ _ q. none_given (sym (invoked_none O s i l (field_code c) v (service_of (field_code c))) ∙ q)) h
shows_in O s x (Result i b) g h =
    settle (λ a. shown_by (indicated_by a) ≡ Some g → Shows s (Result i b) g) (result_checks O s i b) _ (λ _ q. none_given q)
    (λ p q. subst (λ (k : Given). Shows s (Result i b) k) (some_given q) (record { live = arrived_result O s i b p; reads = refl })) h
shows_in O s x (Error i e v) g h =
    settle (λ a. shown_by (indicated_by a) ≡ Some g → Shows s (Error i e v) g) (error_checks O s i e v) _ (λ _ q. none_given q)
    (λ p q. subst (λ (k : Given). Shows s (Error i e v) k) (some_given q) (record { live = (arrived_error O s i e v p).live; reads = refl })) h
shows_in O s x (Reject None kind p) g h = none_given h
shows_in O s x (Reject (Some i) kind p) g h = none_given (sym (silent (eqb kind 0x80)) ∙ h)
  where
    silent : (b : Bool) → ◌≡◌ {A = Option Given} (shown_by (Some (cond b (rejected_p (Some i) p) (rejected_u i kind p)))) None
    silent true = refl
    silent false = refl

module _ (O N : List ℕ) where
  -- the operation that was heard with a live id is the record's
  pub same_code_lem : (w : World) → Agrees N w → (i : ℕ) (c : Code) → In (record { id = i; code = c }) w.book.heard → member i (own_records w.kiosk) ≡ true → code_in (own_records w.kiosk) i ≡ c
  same_code_lem w k i c m h = one_code w.book.asked k.ours.unique i _ _ (k.ours.mine _ (in_code i (own_records w.kiosk) h)) (k.known.hears _ m)

  reply : (w : World) (x : List ℕ) (g : Given) → Agrees N w → In (wired controller x) w.book.wire → Shows w.kiosk (parse x) g → WasGiven w.book g
  reply w x g k m s = go (k.sent x m)
    where
      facts : Reads (parse x) (code_in (own_records w.kiosk) g.id) g
      facts = reads_facts (parse x) (code_in (own_records w.kiosk) g.id) g s.reads

      go : Sayable w.book.given x → WasGiven w.book g
      go (inl t) =
          let f = t.0 in
          let said : reads_as (parse x) f.given.operation ≡ Some f.given = rw t.2 at (told_reads f.given (k.told f t.1).says) in
          let a : f.given.id ≡ g.id = facts.same_id f.given.operation f.given said in
          let q : code_in (own_records w.kiosk) f.given.id ≡ f.given.operation = same_code_lem w k f.given.id f.given.operation (k.told f t.1).from (rw a s.live) in
          let q' : code_in (own_records w.kiosk) g.id ≡ f.given.operation = rw a at q in
          record {
            entry = f;
            stands = t.1;
            same = some_given (sym said ∙ ap (reads_as (parse x)) (sym q') ∙ s.reads);
            asked = subst (λ (c : Code). In (record { id = g.id; code = c }) w.book.asked) (sym facts.operation) (k.ours.mine _ (in_code g.id (own_records w.kiosk) s.live));
          }
      go (inr t) = absurd (octet facts.kind)
        where
          octet : (kind_octet (parse x) ≡ 0xA2) ⊎ (kind_octet (parse x) ≡ 0xA3) → ⊥
          octet (inl e) = t.0 (first_read x (parse x) refl (omega (arith, e)) ∙ e)
          octet (inr e) = t.1 (first_read x (parse x) refl (omega (arith, e)) ∙ e)

  -- every result or error indicated at the kiosk was given
  pub shows_given : (w : World) (x : List ℕ) (room : ℕ) → Agrees N w → In (wired controller x) w.book.wire → (g : Given) → shown_by (indicated_by (perform O w.kiosk (receive x room))) ≡ Some g → WasGiven w.book g
  unfolding perform done
  shows_given w x room k m g h =
      settle (λ a. shown_by (indicated_by a) ≡ Some g → WasGiven w.book g) (checks O w.kiosk (receive x room)) (receive_apdu O w.kiosk x (parse x)) (λ _ q. none_given q)
      (λ _ q. reply w x g k m (shows_in O w.kiosk x (parse x) g q)) h
