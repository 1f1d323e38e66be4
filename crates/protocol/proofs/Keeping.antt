-- What keeps each part of the invariant.
use Prim.Native.Nat.{ℕ}
use mathlib.Core.Path.{◌≡◌, refl, sym, subst, ap, ◌∙◌}
use mathlib.Core.Bool.{Bool, true, false, cond}
use mathlib.Core.List.Memᴰ.{append_cases as in-cases}
use mathlib.Core.List.Memᴰ.{append_left as in_left}
use mathlib.Core.List.Memᴰ.{append_right as in_right}
use mathlib.Core.List.Memᴰ.{eq_of_singleton as in_one}
use mathlib.Core.List.Memᴰ.{head as here}
use mathlib.Core.List.{List, [], ◌∷◌, ◌++◌, Memᴰ as In}
use mathlib.Core.Logic.{◌⊎◌, inl, inr}
use native.Mathlib.Omega.{arith}
use lib.ListN.{get_or}
use lib.Dec.{eqb}
use borrow.Author.Tests.{eqb-true, ne_eqb}
use Rattle.base.proofs.Tests.{cond_elim, or_cases}
use Rattle.codes.specs.declared.Code.{Code}
use Rattle.records.specs.declared.Record.{Record}
use Rattle.records.specs.Records.{member, without, ids_of}
use Rattle.records.specs.Numbers.{among, each_once, leaving}
use Rattle.records.specs.Kept.{KeptAnswer, is_kept, kept_apdu, kept_without, keeping}
use Rattle.records.specs.Held.{Held, kept_answers, keep_answer, drop_answer}
use Rattle.records.proofs.IdLaws.{never_both, among_added, once_added, among_leaving, among_left}
use Rattle.records.proofs.Laws.{ids_added, ids_without}
use Rattle.records.proofs.KeptLaws.{in_kept, in_kept_without, in_keeping, Short, short_keeping}
use Rattle.records.proofs.StoreLaws.{view_packed}
use Rattle.optable.specs.Service.{probe_code}
use Rattle.apdu.specs.Parse.{invoke as Invoke}
use Rattle.apdu.proofs.FirstOctet.{first_read}
use Rattle.protocol.specs.Check.{peer_records, code_in}
use Rattle.protocol.specs.Service.{reply, probed}
use Rattle.protocol.specs.Receive.{field_code}
use Rattle.protocol.specs.ShownWasGiven.{Small}
use Rattle.protocol.specs.Book.{End, kiosk, controller, Wired, wired, Answered, wiring}
use Rattle.apdu.proofs.FieldRoundTrip.{CodeFits}
use Rattle.protocol.proofs.Ids.{in_without, in_member, in_code}
use Rattle.protocol.proofs.Invariant.{Ours, Spoken, Known, NoAnswer, NoInvoke, IsAnswer, Sayable, Sent, Stored}

-- ---- the wire

pub ends_apart : {A : Type 0} → kiosk ≡ controller → A
ends_apart {A} e = let z : ◌≡◌ {A = ℕ} 0 1 = cc in absurd (omega arith)

-- what holds of each APDU of a list
abbrev pub Each : (List ℕ → Type 0) → List (List ℕ) → Type 0
Each P [] = Unit {0}
Each P (x ∷ l) = P x × Each P l

-- what is on the wire after an APDU is written: what was there, or that APDU
pub wired_cases : {y : Wired} (e : End) (x : List ℕ) (wire : List Wired) → In y (wire ++ (wired e x ∷ [])) → In y wire ⊎ (y ≡ wired e x)
wired_cases {y} e x wire m = go (in-cases wire m)
  where
    go : In y wire ⊎ In y (wired e x ∷ []) → In y wire ⊎ (y ≡ wired e x)
    go (inl a) = inl a
    go (inr a) = inr (in_one a)

spoken_one : {wire : List Wired} {asked : List Record} (e : End) (x : List ℕ) → (e ≡ kiosk → NoInvoke x) → Spoken wire asked → Spoken (wire ++ (wired e x ∷ [])) asked
spoken_one {wire} {asked} e x n s y m i l c v p = go (wired_cases e x wire m)
  where
    go : In (wired kiosk y) wire ⊎ (wired kiosk y ≡ wired e x) → In (record { id = i; code = field_code c }) asked
    go (inl a) = s y a i l c v p
    go (inr a) =
        let q : y ≡ x = ap (λ (z : Wired). z.apdu) a in
        absurd (n (sym (ap (λ (z : Wired). z.from) a)) (ap (λ (z : List ℕ). get_or z 0 0) (sym q) ∙ first_read y (Invoke i l c v) p (omega arith)))

-- APDUs of which none is an Invoke of the kiosk's
pub spoken_wired : {wire : List Wired} {asked : List Record} (e : End) (l : List (List ℕ)) → (e ≡ kiosk → Each NoInvoke l) → Spoken wire asked → Spoken (wiring e l wire) asked
spoken_wired e [] n s = s
spoken_wired e (x ∷ l) n s = spoken_wired e l (λ q. (n q).1) (spoken_one e x (λ q. (n q).0) s)

sent_one : {wire : List Wired} {answers : List Answered} (e : End) (x : List ℕ) → (e ≡ controller → Sayable answers x) → Sent wire answers → Sent (wire ++ (wired e x ∷ [])) answers
sent_one {wire} {answers} e x n s y m = go (wired_cases e x wire m)
  where
    go : In (wired controller y) wire ⊎ (wired controller y ≡ wired e x) → Sayable answers y
    go (inl a) = s y a
    go (inr a) = subst (Sayable answers) (sym (ap (λ (z : Wired). z.apdu) a)) (n (sym (ap (λ (z : Wired). z.from) a)))

-- APDUs that the controller may write
pub sent_wired : {wire : List Wired} {answers : List Answered} (e : End) (l : List (List ℕ)) → (e ≡ controller → Each (Sayable answers) l) → Sent wire answers → Sent (wiring e l wire) answers
sent_wired e [] n s = s
sent_wired e (x ∷ l) n s = sent_wired e l (λ q. (n q).1) (sent_one e x (λ q. (n q).0) s)

pub none_answer : (answers : List Answered) (l : List (List ℕ)) → Each NoAnswer l → Each (Sayable answers) l
none_answer answers [] h = tt
none_answer answers (x ∷ l) h = (inr h.0, none_answer answers l h.1)

-- an answer stays one where another is given
pub answer_more : {answers : List Answered} {x : List ℕ} (e : Answered) → IsAnswer answers x → IsAnswer (answers ++ (e ∷ [])) x
answer_more e t = (t.0, in_left (e ∷ []) t.1, t.2)

-- and the new one is one
pub answer_new : (answers : List Answered) (e : Answered) → IsAnswer (answers ++ (e ∷ [])) e.apdu
answer_new answers e = (e, in_right answers (here refl), refl)

pub sent_more : {wire : List Wired} {answers : List Answered} (e : Answered) → Sent wire answers → Sent wire (answers ++ (e ∷ []))
sent_more {wire} {answers} e s y m = go (s y m)
  where
    go : Sayable answers y → Sayable (answers ++ (e ∷ [])) y
    go (inl t) = inl (answer_more e t)
    go (inr t) = inr t

-- ---- kept answers

-- what holds of the APDU of each kept answer
abbrev pub EachKept : (List ℕ → Type 0) → List KeptAnswer → Type 0
EachKept P kept = (k : KeptAnswer) → In k kept → P k.apdu

module _ (P : List ℕ → Type 0) {kept : List KeptAnswer} where
  pub each_dropped : (i : ℕ) → EachKept P kept → EachKept P (kept_without i kept)
  each_dropped i q k m = q k (in_kept_without i kept m)

  -- an answer is kept where b says so
  pub each_kept : (b : Bool) (a : KeptAnswer) → P a.apdu → EachKept P kept → EachKept P (cond b (keeping kept a) kept)
  each_kept true a n q k m = go (in_keeping kept a m)
    where
      go : In k kept ⊎ (k ≡ a) → P k.apdu
      go (inl e) = q k e
      go (inr e) = rw e n
  each_kept false a n q k m = q k m

-- what holds of each reply and of each kept APDU holds of each APDU that a probe makes receive write
pub each_probed : (P : List ℕ → Type 0) (s : Held) (i j : ℕ) → ((n : ℕ) → P (reply i probe_code n)) → EachKept P (kept_answers s) → Each P (probed s i j)
unfolding probed
each_probed P s i j r q =
    cond_elim (Each P) (member j (peer_records s)) (reply i probe_code 0 ∷ []) _ (λ _. (r 0, tt))
    (λ _. cond_elim (Each P) (is_kept j (kept_answers s)) (reply i probe_code 1 ∷ kept_apdu j (kept_answers s) ∷ []) (reply i probe_code 2 ∷ [])
    (λ h. (r 1, (q (record { id = j; apdu = kept_apdu j (kept_answers s) }) (in_kept j (kept_answers s) h), tt))) (λ _. (r 2, tt)))

pub stored_more : {kept : List KeptAnswer} {answers : List Answered} (e : Answered) → Stored kept answers → Stored kept (answers ++ (e ∷ []))
stored_more e s k m = answer_more e (s k m)

-- what is read of the answers that a call leaves
module _ (s : Held) (h : Short (kept_answers s)) where
  pub view_dropped : (i : ℕ) → kept_answers (drop_answer s (record { 0 = i })) ≡ kept_without i (kept_answers s)
  view_dropped i = view_packed (kept_without i (kept_answers s)) (λ k m. h k (in_kept_without i (kept_answers s) m))

  pub view_kept_lem : (b : Bool) (i : ℕ) (x : List ℕ) → kept_answers (keep_answer b s (record { 0 = i }) x) ≡ cond b (keeping (kept_answers s) (record { id = i; apdu = x })) (kept_answers s)
  view_kept_lem true i x = view_packed _ (short_keeping (kept_answers s) (record { id = i; apdu = x }) h)
  view_kept_lem false i x = refl

-- ---- the kiosk's invocations

module _ {owns : List Record} {live : List ℕ} {asked : List Record} {shown : List ℕ} where
  -- an own record leaves
  pub ours_retire : (i : ℕ) → Ours owns live asked shown → Ours (without i owns) (leaving i live) asked shown
  ours_retire i o = record {
    alive = rw (ids_without, o.alive) refl;
    mine = λ r m. o.mine r (in_without i owns m);
    unique = o.unique;
    fits = o.fits;
    early = o.early;
    gone = λ j h. rw ids_without (among_leaving j i (ids_of owns) (o.gone j h));
    once = o.once;
  }

  -- an own record leaves with its answer
  pub ours_show : (i : ℕ) → member i owns ≡ true → Ours owns live asked shown → Ours (without i owns) (leaving i live) asked (shown ++ (i ∷ []))
  ours_show i h o = record {
    alive = rw (ids_without, o.alive) refl;
    mine = λ r m. o.mine r (in_without i owns m);
    unique = o.unique;
    fits = o.fits;
    early = λ j q. early' j (or_cases (among j shown) (eqb i j) (rw among_added at q));
    gone = λ j q. rw ids_without (gone' j (or_cases (among j shown) (eqb i j) (rw among_added at q)));
    once = once_added i shown o.once (new (among i shown) refl);
  }
    where
      asked' : among i (ids_of asked) ≡ true
      asked' = in_member (record { id = i; code = code_in owns i }) asked (o.mine (record { id = i; code = code_in owns i }) (in_code i owns h))

      new : (b : Bool) → among i shown ≡ b → among i shown ≡ false
      new true e = absurd (never_both (among i (ids_of owns)) h (o.gone i e))
      new false e = e

      early' : (j : ℕ) → (among j shown ≡ true) ⊎ (eqb i j ≡ true) → among j (ids_of asked) ≡ true
      early' j (inl e) = o.early j e
      early' j (inr e) = rw (← (eqb-true i j e)) asked'

      gone' : (j : ℕ) → (among j shown ≡ true) ⊎ (eqb i j ≡ true) → among j (leaving i (ids_of owns)) ≡ false
      gone' j (inl e) = among_leaving j i (ids_of owns) (o.gone j e)
      gone' j (inr e) = rw (← (eqb-true i j e)) (among_left i (ids_of owns))

  -- an invocation is asked, and live unless it is silent
  pub ours_ask : (i : ℕ) (c : Code) (silent : Bool) → Small i → CodeFits c → among i (ids_of asked) ≡ false → Ours owns live asked shown
      → Ours (cond silent owns (owns ++ (record { id = i; code = c } ∷ []))) (cond silent live (live ++ (i ∷ []))) (asked ++ (record { id = i; code = c } ∷ [])) shown
  ours_ask i c silent si sc n o = go silent
    where
      r : Record
      r = record { id = i; code = c }

      unique' : each_once (ids_of (asked ++ (r ∷ []))) ≡ true
      unique' = rw ids_added (once_added i (ids_of asked) o.unique n)

      fits'' : (q : Record) → In q asked ⊎ In q (r ∷ []) → Small q.id × CodeFits q.code
      fits'' q (inl m) = o.fits q m
      fits'' q (inr m) = rw (in_one m) (si, sc)

      early' : (j : ℕ) → among j shown ≡ true → among j (ids_of (asked ++ (r ∷ []))) ≡ true
      early' j h = rw (ids_added r asked, among_added j i (ids_of asked), o.early j h) refl

      mine' : (q : Record) → In q owns ⊎ In q (r ∷ []) → In q (asked ++ (r ∷ []))
      mine' q (inl m) = in_left (r ∷ []) (o.mine q m)
      mine' q (inr m) = in_right asked m

      apart : (j : ℕ) → among j shown ≡ true → eqb i j ≡ false
      apart j h = ne_eqb i j (λ e. never_both (among j (ids_of asked)) (o.early j h) (rw e at n))

      go : (b : Bool) → Ours (cond b owns (owns ++ (r ∷ []))) (cond b live (live ++ (i ∷ []))) (asked ++ (r ∷ [])) shown
      go true = record { alive = o.alive; mine = λ q m. mine' q (inl m); unique = unique'; fits = λ q m. fits'' q (in-cases asked m); early = early'; gone = o.gone; once = o.once }
      go false = record {
        alive = rw (ids_added, o.alive) refl;
        mine = λ q m. mine' q (in-cases owns m);
        unique = unique';
        fits = λ q m. fits'' q (in-cases asked m);
        early = early';
        gone = λ j h. rw (ids_added r owns, among_added j i (ids_of owns), o.gone j h) (apart j h);
        once = o.once;
      }

-- ---- the controller's records

module _ {peers heard asked : List Record} where
  pub known_heard : (r : Record) (silent : Bool) → In r asked → Known peers heard asked → Known (cond silent peers (peers ++ (r ∷ []))) (heard ++ (r ∷ [])) asked
  known_heard r silent m k = record { theirs = theirs' silent; hears = λ q n. hears' q (in-cases heard n) }
    where
      hears' : (q : Record) → In q heard ⊎ In q (r ∷ []) → In q asked
      hears' q (inl a) = k.hears q a
      hears' q (inr a) = rw (in_one a) m

      theirs'' : (q : Record) → In q peers ⊎ In q (r ∷ []) → In q (heard ++ (r ∷ []))
      theirs'' q (inl a) = in_left (r ∷ []) (k.theirs q a)
      theirs'' q (inr a) = in_right heard a

      theirs' : (b : Bool) (q : Record) → In q (cond b peers (peers ++ (r ∷ []))) → In q (heard ++ (r ∷ []))
      theirs' true q n = theirs'' q (inl n)
      theirs' false q n = theirs'' q (in-cases peers n)

  pub known_retire : (i : ℕ) → Known peers heard asked → Known (without i peers) heard asked
  known_retire i k = record { theirs = λ q m. k.theirs q (in_without i peers m); hears = k.hears }

  pub known_asked : (r : Record) → Known peers heard asked → Known peers heard (asked ++ (r ∷ []))
  known_asked r k = record { theirs = k.theirs; hears = λ q m. in_left (r ∷ []) (k.hears q m) }
