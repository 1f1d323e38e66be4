-- An answer that reaches the kiosk is accepted exactly when its id is live and, for an error, O lists it; an unlisted one is refused as 'What is shown was given' says.
use Rattle.std.specs.Prelude.{Option, Some, None}
use Prim.Native.Nat.{ℕ, ◌≤◌}
use mathlib.Core.Path.{◌≡◌, refl, sym, ap, ◌∙◌}
use mathlib.Core.Bool.{Bool, true, false}
use mathlib.Core.List.{List, Memᴰ as In}
use mathlib.Core.Logic.{◌⊎◌, inl, inr}
use native.Mathlib.Omega.{arith}
use lib.ListN.{length}
use borrow.Author.Tests.{le-ltb}
use Rattle.codes.specs.declared.Code.{Code}
use Rattle.records.specs.Limits.{octets}
use Rattle.records.specs.Records.{member}
use Rattle.codes.proofs.CodeLaws.{equal_code_same}
use Rattle.records.proofs.Soundness.{sound_state_lem}
use Rattle.records.specs.Numbers.{among}
use Rattle.optable.specs.Validity.{valid}
use Rattle.optable.specs.Lookup.{Extends, operation_of, error_of, known, paired, room_needed}
use Rattle.optable.proofs.TableLaws.{paired_known}
use Rattle.apdu.specs.Field.{Part}
use Rattle.apdu.specs.Parse.{CodedValue, Apdu, parse, result as Result, error as Error}
use Rattle.apdu.proofs.RoundTrip.{body_of}
use Rattle.protocol.specs.Call.{receive, rejecting, refused, is_refused}
use Rattle.protocol.specs.Check.{code_in, class_in, is_class, own_records}
use Rattle.protocol.specs.Receive.{other_code, result_checks, error_checks, receive_apdu}
use Rattle.protocol.specs.Perform.{later_checks, checks, done, perform}
use Rattle.protocol.specs.Book.{Given, World}
use Rattle.protocol.specs.ShownWasGiven.{is_live, Listed, unlisted_problem, AnswerClaim, Reaches}
use Rattle.protocol.proofs.Checks.{Pass, pass, accepted_passes}
use Rattle.protocol.proofs.Facts.{ArrivedError, arrived_result, arrived_error}
use Rattle.protocol.proofs.Ids.{in_code}
use Rattle.protocol.proofs.Coverage.{covered_in}
use Rattle.protocol.proofs.Steady.{steady_sound, steady_usable}
use Rattle.protocol.proofs.Invariant.{ToldResult, ToldError, Told, Inv}
use Rattle.protocol.proofs.Showing.{body_value_lem, same_code_lem}

-- the code that stands beside a value is the record's
same_beside : (c : Code) (v : Option Part) (d : Code) → d ≡ c → other_code (body_of c v) d ≡ false
same_beside c None d e = refl
same_beside c (Some v) d e = rw (equal_code_same c d (sym e))

module _ (O N : List ℕ) (valid-O : valid O ≡ true) (extends : Extends N O) where
  -- ---- a live id at the kiosk

  module _ (w : World) (inv : Inv O N w) (i : ℕ) where
    live_member : is_live w.book i → member i (own_records w.kiosk) ≡ true
    live_member h = sym (ap (among i) inv.agrees.ours.alive) ∙ h

    member_live : member i (own_records w.kiosk) ≡ true → is_live w.book i
    member_live h = ap (among i) inv.agrees.ours.alive ∙ h

    -- the record's operation is the same in both tables
    same_operation_lem : (c : Code) → In (record { id = i; code = c }) w.book.heard → member i (own_records w.kiosk) ≡ true → operation_of N c ≡ operation_of O (code_in (own_records w.kiosk) i)
    same_operation_lem c m h =
        let q = same_code_lem O N w inv.agrees i c m h in
        ap (operation_of N) (sym q)
        ∙ extends.operations (code_in (own_records w.kiosk) i) (covered_in O _ (own_records w.kiosk) inv.steady_k.own.known (in_code i (own_records w.kiosk) h))

  -- ---- results

  module _ (w : World) (x : List ℕ) (g : Given) (inv : Inv O N w) (m : In (record { id = g.id; code = g.operation }) w.book.heard) where
    result_claim : {p : Apdu} → ToldResult N p g → AnswerClaim O w.book g (receive_apdu O w.kiosk x p)
    unfolding receive_apdu result_checks
    result_claim t = rw t.reads (record {
      accepts = (λ h. (member_live w inv g.id (arrived_result O w.kiosk g.id body (accepted_passes (result_checks O w.kiosk g.id body) _ h)), λ e q. no_error e q), λ h. passes (live_member w inv g.id h.0));
      unlisted = λ e q. no_error e q;
    })
      where
        body : Option CodedValue
        body = body_of g.operation t.shown

        no_error : {A : Type 0} (e : Code) → g.error ≡ Some e → A
        no_error e q = let u = t.error in let z : ◌≡◌ {A = ℕ} 0 1 = cc in absurd (omega arith)

        passes : member g.id (own_records w.kiosk) ≡ true → is_refused (receive_apdu O w.kiosk x (Result g.id body)) ≡ false
        passes h =
            let o = same_operation_lem w inv g.id g.operation m h in
            ap is_refused (pass (result_checks O w.kiosk g.id body) _
            (rw h, (rw (← o) t.class, (same_beside g.operation t.shown _ (same_code_lem O N w inv.agrees g.id g.operation m h), (rw (← o, body_value_lem g.operation t.shown, t.octets, t.right), tt)))))

    -- ---- errors

    error_claim : {p : Apdu} → ToldError N p g → AnswerClaim O w.book g (receive_apdu O w.kiosk x p)
    unfolding receive_apdu error_checks
    error_claim t = rw t.reads (record {
      accepts = (λ h. (member_live w inv g.id (live h), listing h), λ h. passes (live_member w inv g.id h.0) (h.1 t.code t.error));
      unlisted = λ e q l u. stops e (code_is e q) (live_member w inv g.id l) u (known (error_of O e)) refl;
    })
      where
        code_is : (e : Code) → g.error ≡ Some e → t.code ≡ e
        code_is e q = cc t.error

        facts : is_refused (receive_apdu O w.kiosk x (Error g.id (Some t.code) t.shown)) ≡ false → ArrivedError O w.kiosk g.id (Some t.code)
        facts h = arrived_error O w.kiosk g.id (Some t.code) t.shown (accepted_passes (error_checks O w.kiosk g.id (Some t.code) t.shown) _ h)

        live : is_refused (receive_apdu O w.kiosk x (Error g.id (Some t.code) t.shown)) ≡ false → member g.id (own_records w.kiosk) ≡ true
        live h = (facts h).live

        listing : is_refused (receive_apdu O w.kiosk x (Error g.id (Some t.code) t.shown)) ≡ false → Listed O g
        listing h e q =
            rw (← (same_code_lem O N w inv.agrees g.id g.operation m (live h)), ← (code_is e q)) (facts h).listed

        class : member g.id (own_records w.kiosk) ≡ true → is_class 4 5 (class_in O (code_in (own_records w.kiosk) g.id)) ≡ false
        class h = rw (← (same_operation_lem w inv g.id g.operation m h)) t.class

        passes : member g.id (own_records w.kiosk) ≡ true → paired O g.operation t.code ≡ true → is_refused (receive_apdu O w.kiosk x (Error g.id (Some t.code) t.shown)) ≡ false
        passes h l =
            let s = same_code_lem O N w inv.agrees g.id g.operation m h in
            let n = paired_known O valid-O g.operation t.code l in
            ap is_refused (pass (error_checks O w.kiosk g.id (Some t.code) t.shown) _
            (rw h, (class h, (rw n, (rw (s, l), (rw (← (extends.errors t.code n), t.octets, t.right), tt))))))

        stops : (e : Code) → t.code ≡ e → member g.id (own_records w.kiosk) ≡ true → paired O g.operation e ≡ false → (b : Bool) → known (error_of O e) ≡ b
            → receive_apdu O w.kiosk x (Error g.id (Some t.code) t.shown) ≡ refused (rejecting (Some g.id) 0x83 (unlisted_problem O e))
        stops e q h u true n = let s = same_code_lem O N w inv.agrees g.id g.operation m h in rw (q, h, class h, n, s, u)
        stops e q h u false n = rw (q, h, class h, n)

  -- ---- the answers of the book

  ready : (w : World) (x : List ℕ) (room : ℕ) → Inv O N w → length x ≤ octets → room_needed O ≤ room → Pass (checks O w.kiosk (receive x room))
  unfolding later_checks
  ready w x room inv s k =
      let sound = sound_state_lem (steady_sound O inv.steady_k) in
      let covers = steady_usable O valid-O inv.steady_k in
      (rw sound, (rw covers, (le-ltb octets (length x) s, (le-ltb room (room_needed O) k, tt))))

  pub reaches : (w : World) (x : List ℕ) (room : ℕ) → Inv O N w → room_needed O ≤ room → Reaches O w.book (receive x room) (perform O w.kiosk (receive x room))
  unfolding perform done
  reaches w x room inv k e m q =
      let t : Told N w.book.heard e = inv.agrees.told e m in
      rw (pass (checks O w.kiosk (receive x room)) (receive_apdu O w.kiosk x (parse x)) (ready w x room inv (rw q at t.size) k)) (rw (← q) (go t.says))
    where
      go : ToldResult N (parse e.apdu) e.given ⊎ ToldError N (parse e.apdu) e.given → AnswerClaim O w.book e.given (receive_apdu O w.kiosk e.apdu (parse e.apdu))
      go (inl t) = result_claim w e.apdu e.given inv (inv.agrees.told e m).from t
      go (inr t) = error_claim w e.apdu e.given inv (inv.agrees.told e m).from t
