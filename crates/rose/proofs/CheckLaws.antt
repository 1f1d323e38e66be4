-- What the first check that fails says of a call.
use Rattle.std.specs.Prelude.{Option, Some, None}
use Rattle.std.proofs.Common.{◌≡◌, ℕ, Bool, true, false, cond, List, [], ◌∷◌, ◌++◌, refl, sym, ◌∙◌, Result}
use mathlib.Core.Path.{subst}
use Rattle.records.specs.Held.{Held}
use Rattle.protocol.specs.Call.{Call, Refusal, Answer, refused}
use Rattle.protocol.specs.declared.Refusal.{Refusal as Reason}
use Rattle.protocol.specs.Check.{Check, answer, shared, peer_records, code_in}
use Rattle.protocol.specs.Perform.{later_checks, checks, done, perform}
use Rattle.protocol.proofs.Checks.{Pass}
use Rattle.rose.specs.declared.arrival.Arrival.{Arrival}
use Rattle.rose.specs.declared.request.Answering.{Answering}
use Rattle.rose.specs.declared.usable.Usable.{Usable}
use Rattle.rose.specs.Answering.{Answers}
use Rattle.rose.specs.Arrival.{told}
use Rattle.rose.specs.Usable.{held, table}
use Rattle.rose.specs.Steps.{first}

pub none_answers : (cs : List Check) (a : Answer) → first cs ≡ None → answer cs a ≡ a
none_answers [] a h = refl
none_answers (c ∷ cs) a h = go c.fails h (none_answers cs a)
  where
    go : (b : Bool) → cond b (Some c.why) (first cs) ≡ None → (first cs ≡ None → answer cs a ≡ a) → cond b (refused c.why) (answer cs a) ≡ a
    go true h ih = absurd (let e : ⊥ = cc in e)
    go false h ih = ih h

pub some_answers : (cs : List Check) (a : Answer) (r : Refusal) → first cs ≡ Some r → answer cs a ≡ refused r
some_answers [] a r h = absurd (let e : ⊥ = cc in e)
some_answers (c ∷ cs) a r h = go c.fails h (some_answers cs a r)
  where
    go : (b : Bool) → cond b (Some c.why) (first cs) ≡ Some r → (first cs ≡ Some r → answer cs a ≡ refused r) → cond b (refused c.why) (answer cs a) ≡ refused r
    go true h ih = let e : c.why ≡ r = cc in rw e refl
    go false h ih = ih h

pub none_passes : (cs : List Check) → first cs ≡ None → Pass cs
none_passes [] h = tt
none_passes (c ∷ cs) h = go c.fails refl h (none_passes cs)
  where
    go : (b : Bool) → c.fails ≡ b → cond b (Some c.why) (first cs) ≡ None → (first cs ≡ None → Pass cs) → (c.fails ≡ false) × Pass cs
    go true e h ih = absurd (let z : ⊥ = cc in z)
    go false e h ih = (e, ih h)

-- ---- some checks before others

pub first_some : (a b : List Check) (r : Refusal) → Some r ≡ first a → Some r ≡ first (a ++ b)
first_some [] b r h = absurd (let e : ⊥ = cc in e)
first_some (c ∷ a) b r h = go c.fails h (first_some a b r)
  where
    go : (t : Bool) → Some r ≡ cond t (Some c.why) (first a) → (Some r ≡ first a → Some r ≡ first (a ++ b)) → Some r ≡ cond t (Some c.why) (first (a ++ b))
    go true h ih = h
    go false h ih = ih h

pub first_none : (a b : List Check) → None ≡ first a → first b ≡ first (a ++ b)
first_none [] b h = refl
first_none (c ∷ a) b h = go c.fails h (first_none a b)
  where
    go : (t : Bool) → None ≡ cond t (Some c.why) (first a) → (None ≡ first a → first b ≡ first (a ++ b)) → first b ≡ cond t (Some c.why) (first (a ++ b))
    go true h ih = absurd (let e : ⊥ = cc in e)
    go false h ih = ih h

pub answer_behind : (a b : List Check) (z : Answer) → None ≡ first a → answer b z ≡ answer (a ++ b) z
answer_behind [] b z h = refl
answer_behind (c ∷ a) b z h = go c.fails h (answer_behind a b z)
  where
    go : (t : Bool) → None ≡ cond t (Some c.why) (first a) → (None ≡ first a → answer b z ≡ answer (a ++ b) z) → answer b z ≡ cond t (refused c.why) (answer (a ++ b) z)
    go true h ih = absurd (let e : ⊥ = cc in e)
    go false h ih = ih h

-- what is usable is the end and its table
module _ (u : Usable) (T : List ℕ) (s : Held) (same : (held u ≡ s) × (table u ≡ T)) where
  pub answers_same : (i : ℕ) (a : Answering) → Answers (table u) (code_in (peer_records (held u)) i) a → Answers T (code_in (peer_records s) i) a
  answers_same i a g = subst (λ (t : Held). Answers T (code_in (peer_records t) i) a) same.0 (subst (λ (t : List ℕ). Answers t (code_in (peer_records (held u)) i) a) same.1 g)

  -- where 19 and 1 pass, what the later checks say is what the call does
  module _ (c : Call) (h : None ≡ first (shared T s)) where
    pub behind : (o : Option Refusal) → o ≡ first (later_checks (table u) (held u) c) → o ≡ first (checks T s c)
    behind o e = e ∙ (λ t. first (later_checks (same.1 t) (same.0 t) c)) ∙ first_none (shared T s) (later_checks T s c) h

    pub performed : (x : List ℕ) (r : Result Arrival Reason) → told x (held u) r ≡ answer (later_checks (table u) (held u) c) (done (table u) (held u) c) → told x s r ≡ perform T s c
    unfolding perform
    performed x r e =
        (λ t. told x (sym same.0 t) r)
        ∙ e
        ∙ (λ t. answer (later_checks (same.1 t) (same.0 t) c) (done (same.1 t) (same.0 t) c))
        ∙ answer_behind (shared T s) (later_checks T s c) (done T s c) h
