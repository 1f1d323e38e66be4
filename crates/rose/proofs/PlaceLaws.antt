-- Laws on where the operations of live records stand.
use Rattle.std.proofs.Common.{◌≡◌, ◌<◌, ◌+◌, ℕ, suc, zero, Bool, true, false, cond, List, [], ◌∷◌, Option, Some, None, length, map, take, set, get_or, arith, ap, sym, refl, ◌∙◌, ◌&&◌}
use Rattle.std.proofs.lemmas.Grind.{common_steps}
use Rattle.std.proofs.Math.Seq.{take-suc, take-suc-set}
use Rattle.std.specs.Prelude.{find as found, position, ◌==◌}
use Rattle.std.specs.Option.{option_map}
use Rattle.std.specs.List.{list_any}
use Rattle.records.specs.declared.Record.{Record}
use Rattle.records.specs.Records.{lookup}
use Rattle.records.proofs.DropLaws.{position_cons}
use Rattle.records.proofs.Laws.{found_is_member}
use Rattle.optable.specs.declared.Part.TheVariants.{Operations}
use Rattle.optable.specs.declared.Operation.{Operation}
use Rattle.optable.specs.Lookup.{find, operation_in, operation_of, listed, class_of}
use Rattle.protocol.specs.Check.{covered, is_busy, code_in, code_found}
use Rattle.rose.specs.Places.{places_of, Stand, IsLive}

module _ (T : List ℕ) where
  -- a table that has not the operation of one record does not cover them
  pub uncovered : (l : List Record) (i : ℕ) (d : Record) → i < length l → find T Operations (get_or l i d).code ≡ None → covered T l ≡ false
  unfolding operation_of
  uncovered [] i d h e = absurd (omega arith)
  uncovered (r ∷ l) zero d h e = rw e refl
  uncovered (r ∷ l) (suc i) d h e = rw (uncovered l i d (omega arith) e) (no (listed (operation_of T r.code)))
    where
      no : (b : Bool) → (b && false) ≡ false
      no true = refl
      no false = refl

  -- a table covers records whose operations stand somewhere
  pub stand_covered : (p : List ℕ) (l : List Record) → Stand T p l → covered T l ≡ true
  unfolding operation_of
  stand_covered p [] h = refl
  stand_covered [] (r ∷ l) h = absurd (let e : ⊥ = cc in e)
  stand_covered (x ∷ p) (r ∷ l) h =
      let here : find T Operations r.code ≡ Some x = cc in
      let behind : map Some (take (length l) p) ≡ places_of T l = cc in
      rw (here, stand_covered p l behind) refl

  pub stand_at : (p : List ℕ) (l : List Record) (i : ℕ) (d : Record) → Stand T p l → i < length l → Some (get_or p i 0) ≡ find T Operations (get_or l i d).code
  stand_at p [] i d h g = absurd (omega arith)
  stand_at [] (r ∷ l) i d h g = absurd (let e : ⊥ = cc in e)
  stand_at (x ∷ p) (r ∷ l) zero d h g = cc
  stand_at (x ∷ p) (r ∷ l) (suc i) d h g =
      let behind : map Some (take (length l) p) ≡ places_of T l = cc in
      stand_at p l i d behind (omega arith)

  -- some operation is of class 1
  pub busy_places : (p : List ℕ) (l : List Record) → Stand T p l → list_any (λ q. class_of (operation_in T (Some q)) == 1) (take (length l) p) ≡ is_busy T l
  unfolding operation_of
  busy_places p [] h = refl
  busy_places [] (r ∷ l) h = absurd (let e : ⊥ = cc in e)
  busy_places (x ∷ p) (r ∷ l) h =
      let here : find T Operations r.code ≡ Some x = cc in
      let behind : map Some (take (length l) p) ≡ places_of T l = cc in
      rw (here, busy_places p l behind) refl

  -- one place more
  pub stand_next : (p : List ℕ) (l : List Record) (i v : ℕ) (d : Record) → i < length l → i < length p → map Some (take i p) ≡ places_of T (take i l) → find T Operations (get_or l i d).code ≡ Some v
      → map Some (take (i + 1) (set p i v)) ≡ places_of T (take (i + 1) l)
  stand_next p l i v d h g e f = grind (arith, common_steps, take-suc, take-suc-set)

-- ---- the record of an id by its index

indexed : (n i : ℕ) (d : Record) (l : List Record) → position (λ r. r.id == n) l ≡ Some i → (i < length l) × (lookup n l ≡ Some (get_or l i d).code)
indexed n i d [] h = absurd (let e : ⊥ = cc in e)
indexed n i d (r ∷ l) h = go (r.id == n) (position (λ x. x.id == n) l) (sym (position_cons (λ x. x.id == n) r l) ∙ h) (λ j. indexed n j d l)
  where
    go : (b : Bool) (o : Option ℕ) → cond b (Some 0) (option_map suc o) ≡ Some i → ((j : ℕ) → o ≡ Some j → (j < length l) × (lookup n l ≡ Some (get_or l j d).code))
        → (i < suc (length l)) × (option_map (λ x. x.code) (cond b (Some r) (found (λ x. x.id == n) l)) ≡ Some (get_or (r ∷ l) i d).code)
    go true o e ih = let z : 0 ≡ i = cc in rw (← z) (omega arith, refl)
    go false None e ih = absurd (let z : ⊥ = cc in z)
    go false (Some j) e ih = let z : suc j ≡ i = cc in rw (← z) (let f = (ih j refl).0 in omega arith, (ih j refl).1)

-- the record at the index of an id, with the operation that stands where its place says
pub is_live : (T p : List ℕ) (l : List Record) (n i : ℕ) (d : Record) (o : Operation) → Stand T p l → position (λ r. r.id == n) l ≡ Some i → Some o ≡ operation_in T (Some (get_or p i 0))
    → IsLive T l n (record { code = (get_or l i d).code; place = Some (get_or p i 0); operation = o })
unfolding operation_of
is_live T p l n i d o h g e =
    let it = indexed n i d l g in
    let code : code_in l n ≡ (get_or l i d).code = ap code_found it.1 in
    let place : Some (get_or p i 0) ≡ find T Operations (code_in l n) = rw code (stand_at T p l i d h it.0) in
    record {
      live = found_is_member n l _ it.1;
      code = sym code;
      place = place;
      operation = e ∙ ap (operation_in T) place;
    }
