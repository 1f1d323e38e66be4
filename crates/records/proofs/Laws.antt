-- The laws of a list of records: what adding a record last and taking the record of an id out do to its ids and to what is found. Each goes along the list.
use Prim.Native.Nat.{ℕ, suc, ◌≤◌}
use native.Mathlib.Omega.{arith}
use mathlib.Core.Path.{◌≡◌, refl, sym, ap, subst, ◌∙◌}
use mathlib.Core.Bool.{Bool, true, false, not, false≢true, cond}
use mathlib.Core.List.{List, [], ◌∷◌, ◌++◌}
use borrow.Author.Tests.{eq-eqb, ne_eqb, eqb-true, not-true}
use lib.Dec.{eqb}
use lib.ListN.{length}
use Rattle.base.proofs.Tests.{and_true, and_left, and_right, or_false_left, or_false_right}
use Rattle.codes.specs.declared.Code.{Code}
use Rattle.codes.specs.Code.{code_right}
use Rattle.records.specs.declared.Record.{Record}
use Rattle.std.specs.Prelude.{Option, Some, None, find, ◌==◌}
use Rattle.std.specs.Option.{option_map}
use Rattle.records.specs.Numbers.{leaving}
use Rattle.records.specs.Records.{lookup, ids_of, member, without, distinct, formed}
use Rattle.records.proofs.IdLaws.{left_out, among_added, once_added, among_leaving, among_left, once_leaving}

some_none : {k : Code} → Some k ≡ None → ⊥
some_none {k} e = cc

-- what is found, by whether the first record has the id
lookup_cases : (P : Option Code → Type 0) (n : ℕ) (r : Record) (l : List Record) → (eqb r.id n ≡ true → P (Some r.code)) → (eqb r.id n ≡ false → P (lookup n l)) → P (lookup n (r ∷ l))
lookup_cases P n r l = go (eqb r.id n)
  where
    go : (b : Bool) → (b ≡ true → P (Some r.code)) → (b ≡ false → P (lookup n l)) → P (option_map (λ x. x.code) (cond b (Some r) (find (λ x. x.id == n) l)))
    go true f g = f refl
    go false f g = g refl

-- what is found behind the same record
lookup_head : (n : ℕ) (r : Record) (a b : List Record) → lookup n a ≡ lookup n b → lookup n (r ∷ a) ≡ lookup n (r ∷ b)
lookup_head n r a b e = go (eqb r.id n)
  where
    go : (t : Bool) → option_map (λ x. x.code) (cond t (Some r) (find (λ x. x.id == n) a)) ≡ option_map (λ x. x.code) (cond t (Some r) (find (λ x. x.id == n) b))
    go true = refl
    go false = e

-- ---- a record at the head

module _ (r : Record) (l : List Record) where
  -- an id that is not there is neither the first record's nor among the others
  module _ (n : ℕ) (h : member n (r ∷ l) ≡ false) where
    head_other : eqb r.id n ≡ false
    head_other = or_false_left (eqb r.id n) (member n l) h

    tail_absent : member n l ≡ false
    tail_absent = or_false_right (eqb r.id n) (member n l) h

  -- where no id stands twice, the first record's stands once
  module _ (h : distinct (r ∷ l) ≡ true) where
    pub head_once : member r.id l ≡ false
    head_once = not-true (member r.id l) (and_left (not (member r.id l)) (distinct l) h)

    pub tail_distinct : distinct l ≡ true
    tail_distinct = and_right (not (member r.id l)) (distinct l) h

-- ---- what is found

pub nothing_is_absent : (n : ℕ) (l : List Record) → lookup n l ≡ None → member n l ≡ false
nothing_is_absent n [] h = refl
nothing_is_absent n (r ∷ l) h =
    lookup_cases (λ f. f ≡ None → member n (r ∷ l) ≡ false) n r l
    (λ _ g. absurd (some_none g))
    (λ e g. rw e (nothing_is_absent n l g))
    h

pub found_is_member : (n : ℕ) (l : List Record) (k : Code) → lookup n l ≡ Some k → member n l ≡ true
found_is_member n [] k h = absurd (some_none (sym h))
found_is_member n (r ∷ l) k h =
    lookup_cases (λ f. f ≡ Some k → member n (r ∷ l) ≡ true) n r l
    (λ e g. rw e refl)
    (λ e g. rw e (found_is_member n l k g))
    h

-- ---- a record added last

pub ids_added : (r : Record) (l : List Record) → ids_of (l ++ r ∷ []) ≡ ids_of l ++ r.id ∷ []
ids_added r [] = refl
ids_added r (x ∷ l) = rw (ids_added r l)

pub member_added : (m : ℕ) (l : List Record) (r : Record) → member m l ≡ false → (r.id ≡ m → ⊥) → member m (l ++ r ∷ []) ≡ false
member_added m l r h g = rw (ids_added r l, among_added m r.id (ids_of l), h) (ne_eqb r.id m g)

pub distinct_added : (l : List Record) (r : Record) → distinct l ≡ true → member r.id l ≡ false → distinct (l ++ r ∷ []) ≡ true
distinct_added l r h g = rw (ids_added r l) (once_added r.id (ids_of l) h g)

pub formed_added : (l : List Record) (r : Record) → formed l ≡ true → code_right r.code ≡ true → formed (l ++ r ∷ []) ≡ true
formed_added [] r h g = and_true g refl
formed_added (x ∷ l) r h g = and_true (and_left (code_right x.code) (formed l) h) (formed_added l r (and_right (code_right x.code) (formed l) h) g)

-- validates `added`: the new record is found by its id
pub lookup_added : (l : List Record) (r : Record) → member r.id l ≡ false → lookup r.id (l ++ r ∷ []) ≡ Some r.code
lookup_added [] r h = simp (eq-eqb r.id r.id refl)
lookup_added (x ∷ l) r h = rw (head_other x l r.id h) (lookup_added l r (tail_absent x l r.id h))

-- validates `added`: what is found of another id stays
pub lookup_added_other : (n : ℕ) (l : List Record) (r : Record) → (r.id ≡ n → ⊥) → lookup n (l ++ r ∷ []) ≡ lookup n l
lookup_added_other n [] r h = simp (ne_eqb _ _ h)
lookup_added_other n (x ∷ l) r h = lookup_head n x (l ++ r ∷ []) l (lookup_added_other n l r h)

-- ---- the record of an id taken out

without_cases : (P : List Record → Type 0) (n : ℕ) (r : Record) (l : List Record) → (eqb r.id n ≡ true → P (without n l)) → (eqb r.id n ≡ false → P (r ∷ without n l)) → P (without n (r ∷ l))
without_cases P n r l = left_out P (eqb r.id n) r (without n l)

pub without_shorter : (n : ℕ) (l : List Record) → length (without n l) ≤ length l
without_shorter n [] = omega arith
without_shorter n (r ∷ l) =
    let h = without_shorter n l in
    without_cases (λ x. length x ≤ suc (length l)) n r l (λ _. omega arith) (λ _. omega arith)

pub without_absent : (n : ℕ) (l : List Record) → member n l ≡ false → without n l ≡ l
without_absent n [] h = refl
without_absent n (r ∷ l) h =
    rw (head_other r l n h) (ap (λ (x : List Record). r ∷ x) (without_absent n l (tail_absent r l n h)))

-- validates `retired`: where no id stands twice, exactly one record is taken out
pub without_one : (n : ℕ) (l : List Record) → distinct l ≡ true → member n l ≡ true → length l ≡ suc (length (without n l))
without_one n [] once h = absurd (false≢true h)
without_one n (r ∷ l) once h =
    without_cases (λ x. suc (length l) ≡ suc (length x)) n r l
    (λ e. ap suc (ap length (sym (without_absent n l (subst (λ (k : ℕ). member k l ≡ false) (eqb-true r.id n e) (head_once r l once))))))
    (λ e. ap suc (without_one n l (tail_distinct r l once) (rw e at h)))

pub ids_without : (i : ℕ) (l : List Record) → ids_of (without i l) ≡ leaving i (ids_of l)
ids_without i [] = refl
ids_without i (r ∷ l) = go (eqb r.id i) (ids_without i l)
  where
    go : (b : Bool) → ids_of (without i l) ≡ leaving i (ids_of l) → ids_of (cond (not b) (r ∷ without i l) (without i l)) ≡ cond (not b) (r.id ∷ leaving i (ids_of l)) (leaving i (ids_of l))
    go true ih = ih
    go false ih = rw ih

pub member_without : (n m : ℕ) (l : List Record) → member m l ≡ false → member m (without n l) ≡ false
member_without n m l h = rw (ids_without n l) (among_leaving m n (ids_of l) h)

pub member_gone : (n : ℕ) (l : List Record) → member n (without n l) ≡ false
member_gone n l = rw (ids_without n l) (among_left n (ids_of l))

pub distinct_without : (n : ℕ) (l : List Record) → distinct l ≡ true → distinct (without n l) ≡ true
distinct_without n l h = rw (ids_without n l) (once_leaving n (ids_of l) h)

pub formed_without : (n : ℕ) (l : List Record) → formed l ≡ true → formed (without n l) ≡ true
formed_without n [] h = refl
formed_without n (r ∷ l) h =
    let rest = formed_without n l (and_right (code_right r.code) (formed l) h) in
    without_cases (λ x. formed x ≡ true) n r l (λ _. rest) (λ _. and_true (and_left (code_right r.code) (formed l) h) rest)

-- validates `retired`: the id is found no more
pub lookup_retired : (n : ℕ) (l : List Record) → lookup n (without n l) ≡ None
lookup_retired n [] = refl
lookup_retired n (r ∷ l) =
    let rest = lookup_retired n l in
    without_cases (λ x. lookup n x ≡ None) n r l (λ _. rest) (λ e. rw e rest)

-- validates `retired`: what is found of another id stays
pub lookup_retired_other : (m n : ℕ) (l : List Record) → (m ≡ n → ⊥) → lookup m (without n l) ≡ lookup m l
lookup_retired_other m n [] h = refl
lookup_retired_other m n (r ∷ l) h =
    let rest = lookup_retired_other m n l h in
    without_cases (λ x. lookup m x ≡ lookup m (r ∷ l)) n r l
    (λ e. rw (ne_eqb r.id m (λ k. h (sym k ∙ eqb-true r.id n e))) rest)
    (λ _. lookup_head m r (without n l) l rest)
