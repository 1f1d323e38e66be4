-- Linked ids: what 7 and 8 ask of an invoke request's peer records, problems 5, 6 and 7 ask of the own records where the Invoke arrives. This validates the two lists
-- beside each other: nothing cites it.
use Prim.Native.Nat.{ℕ}
use mathlib.Core.Path.{◌≡◌, refl, sym, ap, ◌∙◌}
use mathlib.Core.Bool.{true, false}
use mathlib.Core.List.{List}
use borrow.Author.Tests.{not-false}
use Rattle.codes.specs.declared.Code.{Code}
use Rattle.records.specs.declared.Record.{Record}
use Rattle.records.specs.Held.{Held}
use Rattle.std.specs.Prelude.{Option, Some, None}
use Rattle.records.specs.Records.{member, lookup}
use Rattle.records.proofs.Laws.{nothing_is_absent, found_is_member}
use Rattle.records.proofs.IdLaws.{never_both}
use Rattle.optable.specs.Lookup.{child_of}
use Rattle.optable.proofs.TableLaws.{child_parent}
use Rattle.apdu.specs.Field.{Part}
use Rattle.protocol.specs.Call.{invoke}
use Rattle.protocol.specs.Check.{code_found, code_in, own_records, peer_records, linked_to}
use Rattle.protocol.specs.Receive.{invoke_checks}
use Rattle.protocol.specs.Perform.{checks}
use Rattle.protocol.proofs.Checks.{Pass, failing}
use Rattle.protocol.proofs.Facts.{invoke_facts}

member_same : (n : ℕ) (l m : List Record) → lookup n m ≡ lookup n l → member n l ≡ true → member n m ≡ true
member_same n l m e h = go (lookup n m) refl
  where
    go : (f : Option Code) → lookup n m ≡ f → member n m ≡ true
    go (Some c) q = found_is_member n m c q
    go None q = absurd (never_both (member n l) h (nothing_is_absent n l (sym e ∙ q)))

-- an Invoke whose request passed at s has none of the linked problems at t, where the parent's record is an own one
pub linked_taken : (T : List ℕ) (s t : Held) (i : ℕ) (c : Code) (l : Option ℕ) (v : List ℕ) (room : ℕ) (w : Option Part) → lookup (linked_to l) (own_records t) ≡ lookup (linked_to l) (peer_records s)
    → Pass (checks T s (invoke i c l v room))
    → (failing 5 (invoke_checks T t i l (Some c) w) ≡ false) × (failing 6 (invoke_checks T t i l (Some c) w) ≡ false) × (failing 7 (invoke_checks T t i l (Some c) w) ≡ false)
unfolding invoke_checks
linked_taken T s t i c None v room w e p = (refl, refl, refl)
linked_taken T s t i c (Some j) v room w e p =
    let f = invoke_facts T s i v room c (Some j) p in
    let has = not-false (member j (peer_records s)) f.parent in
    let child = not-false (child_of T (code_in (peer_records s) j) c) f.child in
    let same : code_in (own_records t) j ≡ code_in (peer_records s) j = ap code_found e in
    (rw (member_same j (peer_records s) (own_records t) e has), rw (same, child_parent T (code_in (peer_records s) j) c child), rw (same, child))
