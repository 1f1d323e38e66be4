-- What receive writes: nothing, one APDU, or the Result of a probe and a kept answer, each taken out of the octets again.
use Rattle.std.specs.Prelude.{Option}
use Prim.Native.Nat.{ℕ, ◌+◌, ◌-◌, ◌<◌, ◌≤◌}
use mathlib.Core.Path.{◌≡◌, refl, sym, ap, ◌∙◌}
use mathlib.Core.Bool.{Bool, true, false, cond, false≢true}
use mathlib.Core.List.{List, [], ◌∷◌, ◌++◌, append_assoc, append-nil}
use native.Mathlib.Omega.{arith}
use lib.Dec.{eqb}
use lib.ListN.{length, get_or, take, drop, length-append, length-take, length-drop, get_or-append}
use lib.Seq.{take_all, take_at, drop_at}
use Rattle.base.proofs.Lists.{rest}
use borrow.Author.Tests.{eq-eqb, ne_eqb}
use Rattle.base.proofs.Tests.{cond_elim, and_false_left, and_false_right}
use Rattle.base.specs.Octets.{part}
use Rattle.ber.specs.Header.{digits}
use Rattle.ber.specs.Element.{element_octets}
use Rattle.ber.specs.Integer.{fits_octets, octet_count, integer_octets}
use Rattle.ber.proofs.IntegerLaws.{count_within}
use Rattle.ber.proofs.LengthLaws.{length_short}
use Rattle.codes.specs.declared.Code.{Code}
use Rattle.codes.specs.declared.Code.TheVariants.{Local}
use Rattle.records.specs.Kept.{is_kept, kept_apdu}
use Rattle.records.specs.Held.{Held, kept_answers}
use Rattle.records.specs.Records.{member}
use Rattle.optable.specs.declared.Service.{Service}
use Rattle.optable.specs.declared.Service.TheVariants.{Probe, Acknowledge, Ordinary}
use Rattle.optable.specs.Service.{probe_code, service_of}
use Rattle.apdu.specs.Field.{Part}
use Rattle.apdu.specs.Parse.{Apdu, badly_structured, unrecognized, mistyped, parse, invoke as Invoke, result as Result, error as Error, reject as Reject}
use Rattle.apdu.specs.Encode.{integer_field, code_field, body_field, rejected_field, encode_result, encode_reject}
use Rattle.apdu.proofs.SizeLaws.{integer_size, number_most, reject_contents}
use Rattle.protocol.specs.Call.{receive, Refusal, plain, rejecting, Answer, accepted, refused, written_by, end_to_end}
use Rattle.protocol.specs.Check.{Check, answer, peer_records}
use Rattle.protocol.specs.Receive.{field_code, fault, invoke_checks, result_checks, error_checks, invoke_done, receive_apdu}
use Rattle.protocol.specs.Service.{enumerated, reply, probed, acknowledged}
use Rattle.protocol.specs.Perform.{checks, done, perform}
use Rattle.protocol.proofs.Checks.{settle}
use Rattle.player.specs.Play.{same_octets}
use Rattle.player.proofs.SameLaws.{same_said}
use Rattle.player.specs.Reading.{finished_end, says_finished, Sized, Writes, nothing, one, two}

-- ---- one APDU

-- an element whose contents are below 80 octets
short_octets : (t : ℕ) (c : List ℕ) → length c < 0x80 → element_octets t c ≡ t ∷ length c ∷ c
unfolding element_octets
short_octets t c h = rw (length_short (length c) h) refl

rejects : (i : Option ℕ) (kind p : ℕ) → Writes (encode_reject i kind p ∷ [])
unfolding encode_reject says_finished
rejects i kind p =
    let c = rejected_field i ++ element_octets kind (p ∷ []) in
    let h : length c < 0x80 = omega (arith, reject_contents i kind p, number_most 2 i (omega arith)) in
    rw (short_octets 0xA4 c h) (one (0xA4 ∷ length c ∷ c) (omega arith) refl)

-- the octets of a Result of receive's, up to the code of one octet, and behind it
abbrev up_to : ℕ → ℕ → List ℕ
up_to i n = 0xA2 ∷ n ∷ (integer_field 0x02 i ++ (0x30 ∷ 0x06 ∷ 0x02 ∷ 0x01 ∷ []))

reply_octets : (i x b n : ℕ) → integer_octets x ≡ b ∷ [] → reply i (Local x) n ≡ up_to i (octet_count i + 10) ++ (b ∷ 0x0A ∷ 0x01 ∷ n ∷ [])
unfolding reply encode_result body_field code_field
reply_octets i x b n e =
    let y : List ℕ = 0x02 ∷ 0x01 ∷ b ∷ 0x0A ∷ 0x01 ∷ n ∷ [] in
    let z : List ℕ = 0x30 ∷ 0x06 ∷ y in
    let code : element_octets 0x02 (integer_octets x) ≡ 0x02 ∷ 0x01 ∷ b ∷ [] = ap (element_octets 0x02) e ∙ short_octets 0x02 (b ∷ []) (omega arith) in
    let body : element_octets 0x30 (element_octets 0x02 (integer_octets x) ++ enumerated n) ≡ z = ap (λ (c : List ℕ). element_octets 0x30 (c ++ enumerated n)) code ∙ short_octets 0x30 y (omega arith) in
    let size : length (integer_field 0x02 i ++ z) ≡ octet_count i + 10 = omega (arith, length-append (integer_field 0x02 i) z, integer_size 0x02 i) in
    ap (λ (c : List ℕ). element_octets 0xA2 (integer_field 0x02 i ++ c)) body
    ∙ short_octets 0xA2 (integer_field 0x02 i ++ z) (omega (arith, count_within i))
    ∙ rw (size, append_assoc) refl

-- ---- whether it says finished

ends_with : (front tail : List ℕ) → length tail ≡ 4 → part (front ++ tail) (length (front ++ tail) - 4) (length (front ++ tail)) ≡ tail
ends_with front tail e =
    let h : length (front ++ tail) - 4 ≡ length front = omega (arith, length-append front tail) in
    rw h (ap (take (length (front ++ tail) - length front)) (drop_at front tail (length front) refl) ∙ take_all (length (front ++ tail) - length front) tail (omega (arith, length-append front tail)))

module _ (x : List ℕ) where
  pub says_short : length x < 4 → false ≡ says_finished x
  unfolding says_finished
  says_short h =
      let y = part x (length x - 4) (length x) in
      let k : length y ≤ length x = omega (arith, length-take (length x - (length x - 4)) (drop (length x - 4) x), length-drop (length x - 4) x) in
      sym (and_false_right (eqb (get_or x 0 0) 0xA2) (same_octets y finished_end) (sym (same_said false y finished_end (λ e. absurd (false≢true e), λ e. absurd (omega (arith, ap length e))))))

  pub says_other : (a : ℕ) → a ≡ get_or x 0 0 → (a ≡ 0xA2 → ⊥) → false ≡ says_finished x
  unfolding says_finished
  says_other a e h = sym (and_false_left (eqb (get_or x 0 0) 0xA2) _ (ne_eqb _ _ (λ f. h (e ∙ f))))

  pub says_by : (a : ℕ) (y : List ℕ) (r : Bool) → a ≡ get_or x 0 0 → a ≡ 0xA2 → y ≡ part x (length x - 4) (length x) → (r ≡ true → y ≡ finished_end) × (y ≡ finished_end → r ≡ true) → r ≡ says_finished x
  unfolding says_finished
  says_by a y r e f v h = same_said r y finished_end h ∙ rw (← v, eq-eqb (get_or x 0 0) 0xA2 (sym e ∙ f)) refl

module _ (i x b n : ℕ) (e : integer_octets x ≡ b ∷ []) where
  reply_sized : Sized (reply i (Local x) n)
  reply_sized =
      rw (reply_octets i x b n e)
      (omega (arith, length-append (integer_field 0x02 i ++ (0x30 ∷ 0x06 ∷ 0x02 ∷ 0x01 ∷ [])) (b ∷ 0x0A ∷ 0x01 ∷ n ∷ []), length-append (integer_field 0x02 i) (0x30 ∷ 0x06 ∷ 0x02 ∷ 0x01 ∷ []), integer_size 0x02 i))

  reply_says : says_finished (reply i (Local x) n) ≡ same_octets (b ∷ 0x0A ∷ 0x01 ∷ n ∷ []) finished_end
  unfolding says_finished
  reply_says =
      rw (reply_octets i x b n e)
      (ap (λ (y : List ℕ). same_octets y finished_end) (ends_with (up_to i (octet_count i + 10)) (b ∷ 0x0A ∷ 0x01 ∷ n ∷ []) refl))

probe_octet : integer_octets 0xFFFF_FFFE ≡ 0xFE ∷ []
unfolding integer_octets octet_count fits_octets digits
probe_octet = refl

acknowledge_octet : integer_octets 0xFFFF_FFFD ≡ 0xFD ∷ []
unfolding integer_octets octet_count fits_octets digits
acknowledge_octet = refl

-- ---- what a call of receive writes

probe_writes : (s : Held) (i j : ℕ) → Writes (probed s i j)
unfolding probed same_octets
probe_writes s i j =
    cond_elim Writes (member j (peer_records s)) (reply i probe_code 0 ∷ []) _ (λ _. one _ (sized 0) (says 0))
    (λ _. cond_elim Writes (is_kept j (kept_answers s)) (reply i probe_code 1 ∷ kept_apdu j (kept_answers s) ∷ []) (reply i probe_code 2 ∷ [])
    (λ _. two _ _ (sized 1) (says 1)) (λ _. one _ (sized 2) (says 2)))
  where
    sized : (n : ℕ) → Sized (reply i probe_code n)
    sized n = reply_sized i 0xFFFF_FFFE 0xFE n probe_octet

    says : (n : ℕ) → says_finished (reply i probe_code n) ≡ same_octets (0xFE ∷ 0x0A ∷ 0x01 ∷ n ∷ []) finished_end
    says n = reply_says i 0xFFFF_FFFE 0xFE n probe_octet

acknowledge_writes : (s : Held) (i j : ℕ) → Writes (acknowledged s i j)
unfolding acknowledged same_octets
acknowledge_writes s i j =
    let n : ℕ = cond {A = ℕ} (is_kept j (kept_answers s)) 0 1 in
    one _ (reply_sized i 0xFFFF_FFFD 0xFD n acknowledge_octet) (reply_says i 0xFFFF_FFFD 0xFD n acknowledge_octet)

refusal_writes : (r : Refusal) → Writes (written_by (refused r))
refusal_writes (plain n) = nothing
refusal_writes (rejecting i kind p) = rejects i kind p

invoke_writes : (T : List ℕ) (s : Held) (i : ℕ) (l : Option ℕ) (c : Code) (v : Option Part) (q : Service) → Writes (written_by (invoke_done T s i l c v q))
unfolding invoke_done
invoke_writes T s i l c v Probe = probe_writes s i _
invoke_writes T s i l c v Acknowledge = acknowledge_writes s i _
invoke_writes T s i l c v Ordinary = nothing

module _ (T : List ℕ) (s : Held) (x : List ℕ) where
  settled : (cs : List Check) (a : Answer) → Writes (written_by a) → Writes (written_by (answer cs a))
  settled cs a h = settle (λ b. Writes (written_by b)) cs a refusal_writes (λ _. h)

  apdu_writes : (p : Apdu) → Writes (written_by (receive_apdu T s x p))
  unfolding receive_apdu
  apdu_writes (badly_structured p) = refusal_writes (fault x 2 _)
  apdu_writes unrecognized = refusal_writes (fault x 0 _)
  apdu_writes (mistyped i) = refusal_writes (fault x 1 i)
  apdu_writes (Invoke i l c v) = settled (invoke_checks T s i l c v) _ (invoke_writes T s i l (field_code c) v (service_of (field_code c)))
  apdu_writes (Result i b) = settled (result_checks T s i b) (accepted _ _ []) nothing
  apdu_writes (Error i e v) = settled (error_checks T s i e v) (accepted _ _ []) nothing
  apdu_writes (Reject i kind p) = nothing

  pub receive_writes : (room : ℕ) → Writes (written_by (perform T s (receive x room)))
  unfolding perform done
  receive_writes room = settled (checks T s (receive x room)) _ (apdu_writes (parse x))

-- ---- the APDUs taken out of the octets again

-- the octets w hold the APDUs l: y up to the end, and where it says finished one behind it
pub record Split (w : List ℕ) (l : List (List ℕ)) (y : List ℕ) (end : ℕ) : Type 0 where
  pub behind : List (List ℕ)
  pub whole : l ≡ y ∷ behind
  pub alone : says_finished y ≡ false → behind ≡ []
  pub kept : says_finished y ≡ true → behind ≡ part w end (length w) ∷ []

module _ (x r w : List ℕ) (end : ℕ) (sized : Sized x) (e : w ≡ x ++ r) (f : end ≡ 2 + get_or w 1 0) where
  ends : end ≡ length x
  ends = f ∙ omega (arith, sized, ap (λ (y : List ℕ). get_or y 1 0) e, get_or-append x r 0 1 (omega arith))

  first_part : part w 0 end ≡ x
  first_part = let h : end - 0 ≡ length x = omega (arith, ends) in rw (h, e) (take_at x r (length x) refl)

  other_part : part w end (length w) ≡ r
  other_part = rw (ends, rest, e) (drop_at x r (length x) refl)

pub split : (w : List ℕ) {l : List (List ℕ)} (y : List ℕ) (end : ℕ) → Writes l → w ≡ end_to_end l → y ≡ part w 0 end → end ≡ 2 + get_or w 1 0 → (length w ≡ 0 → ⊥) → Split w l y end
split w y end nothing e v f z = absurd (z (ap length e))
split w y end (one x sized says) e v f z =
    let p : y ≡ x = v ∙ first_part x [] w end sized e f in
    record { behind = []; whole = ap (λ (a : List ℕ). a ∷ []) (sym p); alone = λ _. refl; kept = λ g. absurd (false≢true (sym says ∙ ap says_finished (sym p) ∙ g)) }
split w y end (two x k sized says) e v f z =
    let p : y ≡ x = v ∙ first_part x (k ++ []) w end sized e f in
    let q : part w end (length w) ≡ k = other_part x (k ++ []) w end sized e f ∙ append-nil k in
    record {
      behind = k ∷ [];
      whole = ap (λ (a : List ℕ). a ∷ k ∷ []) (sym p);
      alone = λ g. absurd (false≢true (sym g ∙ ap says_finished p ∙ says));
      kept = λ _. ap (λ (a : List ℕ). a ∷ []) (sym q);
    }

pub written_none : (w : List ℕ) {l : List (List ℕ)} → Writes l → w ≡ end_to_end l → length w ≡ 0 → l ≡ []
written_none w nothing e z = refl
written_none w (one x sized says) e z = absurd (omega (arith, sized, ap length e, length-append x []))
written_none w (two x y sized says) e z = absurd (omega (arith, sized, ap length e, length-append x (y ++ [])))
