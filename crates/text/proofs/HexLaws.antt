-- Hexadecimal text: what a test picks, and what stands in an output after a character.
use Rattle.std.specs.Prelude.{ℕ, suc, ◌+◌, ◌-◌, ◌*◌, ◌≤◌, ◌<◌, Option, Some, None, Result, Ok, Err, ok_or, option_map, ◌==◌}
use mathlib.Core.Path.{◌≡◌, refl, sym, subst, ap, ◌∙◌}
use mathlib.Core.List.{List, [], ◌∷◌, ◌++◌}
use native.Mathlib.Numerals.{add-one}
use Rattle.std.proofs.Common.{arith}
use Rattle.std.proofs.lemmas.Bool.Decides.{nat_tests}
use lib.ListN.{length, get_or, take, drop, set, take-append-drop, drop_of_length-le}
use lib.Seq.{length-take-le, take-suc-set, drop-set-lt, drop-cons, drop-drop}
use Rattle.text.specs.declared.hex.HexFault.{HexFault}
use Rattle.text.specs.declared.hex.HexFault.TheVariants.{NoDigit, Long}
use Rattle.text.specs.declared.hex.Phase.{Phase}
use Rattle.text.specs.declared.hex.Phase.TheVariants.{Between, Comment, First}
use Rattle.text.specs.declared.hex.Reading.{Reading}
use Rattle.text.specs.Hex.{is_blank, digit_of, between, comment, second, stepped, read_from, readout, answer, Read}
use Rattle.text.specs.Steps.{standing, waiting, Sound, Stepped, Stopped}
use borrow.Author.Tests.{lt-ltb, le-ltb}
use Rattle.base.proofs.Tests.{cond_true, cond_false, cond_elim}

-- ---- a character

pub digit_small : (c e : ℕ) → digit_of c ≡ Some e → e < 16
unfolding digit_of
digit_small c e h = grind (arith, nat_tests)

-- behind the first digit d of an octet
module _ (out : List ℕ) (d count place c : ℕ) where
  pub stopped_no_digit : digit_of c ≡ None → Stopped out (record { phase = First d; count = count }) place c out (NoDigit place)
  unfolding stepped second
  stopped_no_digit h = record { read = (λ i. second (length out) place d (take count out) (sym h i)); same = refl }

  pub stopped_long : (e : ℕ) → digit_of c ≡ Some e → count ≤ length out → length out ≤ count → Stopped out (record { phase = First d; count = count }) place c out Long
  unfolding stepped second
  stopped_long e h w full = record {
    read = cond_false _ _ (le-ltb (length (take count out)) (length out) (omega (arith, length-take-le count out w))) ∙ (λ i. second (length out) place d (take count out) (sym h i));
    same = refl;
  }

  octets_more : (e : ℕ) → count < length out → take (count + 1) (set out count (d * 16 + e)) ≡ take count out ++ (d * 16 + e) ∷ []
  octets_more e room = ap (λ (n : ℕ). take n (set out count (d * 16 + e))) (add-one count) ∙ take-suc-set out count (d * 16 + e) room

  pub stepped_octet : (e : ℕ) → digit_of c ≡ Some e → count < length out → Stepped out (record { phase = First d; count = count }) place c (set out count (d * 16 + e)) (record { phase = Between; count = count + 1 })
  unfolding stepped second waiting
  stepped_octet e h room = record {
    read = (λ i. record { phase = Ok Between; octets = octets_more e room i })
        ∙ cond_true _ _ (lt-ltb (length (take count out)) (length out) (omega (arith, length-take-le count out (omega arith))))
        ∙ (λ i. second (length out) place d (take count out) (sym h i));
    behind = drop-set-lt (count + 1) out count (d * 16 + e) (omega arith);
    more = omega arith;
    sound = record { within = omega arith; digit = omega arith };
  }

module _ (out : List ℕ) (r : Reading) (place c : ℕ) where
  -- the octets stay, and only where the reading stands is new
  stays : {p q : Phase} → r.phase ≡ q → record { phase = Ok p; octets = take r.count out } ≡ stepped (length out) place (Ok q) (take r.count out) c → Sound out r → waiting p < 16 → Stepped out r place c out (record { phase = p; count = r.count })
  stays {p} {q} h e s w = record {
    read = e ∙ ap (λ (f : Phase). stepped (length out) place (Ok f) (take r.count out) c) (sym h);
    behind = refl;
    more = omega arith;
    sound = record { within = s.within; digit = w };
  }

  found_waits : (o : Option ℕ) (e : HexFault) (p : Phase) → o ≡ digit_of c → Ok p ≡ ok_or (option_map First o) e → waiting p < 16
  unfolding waiting
  found_waits None e p h w = cc
  found_waits (Some d) e p h w = let q : p ≡ First d = cc in rw q (digit_small c d (sym h))

  between_waits : (p : Phase) → Ok p ≡ between place c → waiting p < 16
  unfolding between waiting
  between_waits p e =
      cond_elim (λ (o : Result Phase HexFault). Ok p ≡ o → waiting p < 16) (is_blank c) (Ok Between) _ (λ _ w. let q : p ≡ Between = cc in rw q (omega arith))
      (λ _. cond_elim (λ (o : Result Phase HexFault). Ok p ≡ o → waiting p < 16) (c == 35) (Ok Comment) _ (λ _ w. let q : p ≡ Comment = cc in rw q (omega arith))
      (λ _ w. found_waits (digit_of c) (NoDigit place) p refl w)) e

  comment_waits : waiting (comment c) < 16
  unfolding comment waiting
  comment_waits = cond_elim (λ p. waiting p < 16) (c == 10) Between _ (λ _. omega arith) (λ _. omega arith)

  pub stepped_between : {p : Phase} → r.phase ≡ Between → Ok p ≡ between place c → Sound out r → Stepped out r place c out (record { phase = p; count = r.count })
  unfolding stepped
  stepped_between {p} h e s = stays h (λ i. record { phase = e i; octets = take r.count out }) s (between_waits p e)

  pub stopped_between : {fault : HexFault} → r.phase ≡ Between → Err fault ≡ between place c → Stopped out r place c out fault
  unfolding stepped
  stopped_between h e = record {
    read = (λ i. record { phase = e i; octets = take r.count out }) ∙ ap (λ (f : Phase). stepped (length out) place (Ok f) (take r.count out) c) (sym h);
    same = refl;
  }

  pub stepped_comment : {p : Phase} → r.phase ≡ Comment → p ≡ comment c → Sound out r → Stepped out r place c out (record { phase = p; count = r.count })
  unfolding stepped
  stepped_comment h e s = stays h (λ i. record { phase = Ok (e i); octets = take r.count out }) s (subst (λ q. waiting q < 16) (sym e) comment_waits)

-- ---- a text

drop_more : (n m : ℕ) (a b : List ℕ) → n ≤ m → drop n a ≡ drop n b → drop m a ≡ drop m b
drop_more n m a b h e =
    let q : n + (m - n) ≡ m = omega arith in
    ap (λ (k : ℕ). drop k a) (sym q) ∙ sym (drop-drop (m - n) n a) ∙ ap (drop (m - n)) e ∙ drop-drop (m - n) n b ∙ ap (λ (k : ℕ). drop k b) q

-- what a loop over the text keeps: the output behind the octets is as before, and what is left of the text decides
pub record Reads (text out after : List ℕ) (i : ℕ) (r : Reading) : Type 0 where
  pub size : length after ≡ length out
  pub sound : Sound after r
  pub behind : drop r.count after ≡ drop r.count out
  pub left : readout (length out) text ≡ read_from (length out) i (standing after r) (drop i text)

pub reads_none : (text out : List ℕ) → Reads text out out 0 (record { phase = Between; count = 0 })
unfolding waiting
reads_none text out = record { size = refl; sound = record { within = omega arith; digit = omega arith }; behind = refl; left = refl }

pub reads_next : (text : List ℕ) {out p : List ℕ} (i : ℕ) {r : Reading} {after : List ℕ} {q : Reading} → i < length text → Reads text out p i r → Stepped p r i (get_or text i 0) after q → length after ≡ length p → Reads text out after (i + 1) q
unfolding read_from
reads_next text {out} {p} i {r} {after} {q} h x y e = record {
  size = e ∙ x.size;
  sound = record { within = omega (arith, y.sound.within); digit = y.sound.digit };
  behind = y.behind ∙ drop_more r.count q.count p out y.more x.behind;
  left = x.left
      ∙ ap (read_from (length out) i (standing p r)) (drop-cons text i 0 h)
      ∙ (λ j. read_from (length out) (suc i) (stepped (sym x.size j) i (Ok r.phase) (take r.count p) (get_or text i 0)) (drop (suc i) text))
      ∙ (λ j. read_from (length out) (sym (add-one i) j) (sym y.read j) (drop (sym (add-one i) j) text));
}

-- a place in an output, and what is answered there
reads_out : (text : List ℕ) {out after : List ℕ} {count : ℕ} {phase : Result Phase HexFault} {h : Result ℕ HexFault} → count ≤ length after → drop count after ≡ drop count out → readout (length out) text ≡ record { phase = phase; octets = take count after } → h ≡ answer phase count → Read text out after h
reads_out text {out} {after} {count} {phase} {h} w b s e =
    let n : length (take count after) ≡ count = length-take-le count after w in
    record {
      answered = e ∙ (λ j. answer phase (sym n j)) ∙ (λ j. answer (sym s j).phase (length (sym s j).octets));
      octets = sym (take-append-drop count after) ∙ ap (λ (u : List ℕ). take count after ++ u) b
          ∙ (λ j. take count after ++ drop (sym n j) out) ∙ (λ j. (sym s j).octets ++ drop (length (sym s j).octets) out);
    }

pub reads_end : (text : List ℕ) {out after : List ℕ} (i : ℕ) {r : Reading} {h : Result ℕ HexFault} → length text ≤ i → Reads text out after i r → h ≡ answer (Ok r.phase) r.count → Read text out after h
unfolding read_from
reads_end text {out} {after} i {r} {h} q x e =
    reads_out text x.sound.within x.behind (x.left ∙ ap (read_from (length out) i (standing after r)) (drop_of_length-le text q)) e

-- what is wrong stays wrong
read_wrong : (room i : ℕ) (fault : HexFault) (s text : List ℕ) → read_from room i (record { phase = Err fault; octets = s }) text ≡ record { phase = Err fault; octets = s }
unfolding read_from stepped
read_wrong room i fault s [] = refl
read_wrong room i fault s (c ∷ text) = read_wrong room (suc i) fault s text

pub reads_wrong : (text : List ℕ) {out p : List ℕ} (i : ℕ) {r : Reading} {after : List ℕ} {fault : HexFault} → i < length text → Reads text out p i r → Stopped p r i (get_or text i 0) after fault → Read text out after (Err fault)
unfolding read_from answer
reads_wrong text {out} {p} i {r} {after} {fault} h x y =
    let s : readout (length out) text ≡ record { phase = Err fault; octets = take r.count p } =
    x.left
    ∙ ap (read_from (length out) i (standing p r)) (drop-cons text i 0 h)
    ∙ (λ j. read_from (length out) (suc i) (stepped (sym x.size j) i (Ok r.phase) (take r.count p) (get_or text i 0)) (drop (suc i) text))
    ∙ (λ j. read_from (length out) (suc i) (sym y.read j) (drop (suc i) text))
    ∙ read_wrong (length out) (suc i) fault (take r.count p) (drop (suc i) text) in
    subst (λ (u : List ℕ). Read text out u (Err fault)) (sym y.same) (reads_out text x.sound.within x.behind s refl)
