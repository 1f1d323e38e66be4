-- What stands inside octets, by the frame that was found for them.
use Rattle.std.specs.Prelude.{Option, Some, None}
use Prim.Native.Nat.{ℕ}
use mathlib.Core.Path.{◌≡◌, sym, ap, ◌∙◌}
use mathlib.Core.List.{List}
use Rattle.base.specs.Octets.{part}
use Rattle.ber.specs.declared.element.Frame.{Frame}
use Rattle.apdu.specs.Parse.{number_under}
use Rattle.apdu.specs.Inside.{only_frame, inside_at, inside, id_at, id_in}
use Rattle.base.proofs.Tests.{cond_true, cond_false}
use borrow.Author.Tests.{eq-eqb, ne_eqb}

module _ (x : List ℕ) (f : Option Frame) (found : f ≡ only_frame x) where
  pub inside_none : (t : ℕ) (y : List ℕ) → f ≡ None → y ≡ part x 0 0 → y ≡ inside t x
  unfolding inside_at
  inside_none t y e q = q ∙ ap (inside_at t x) (sym e ∙ found)

  pub id_none : f ≡ None → None ≡ id_in x
  unfolding id_at
  id_none e = ap (id_at x) (sym e ∙ found)

  module _ (frame : Frame) (e : f ≡ Some frame) where
    pub inside_wanted : (t : ℕ) (y : List ℕ) → frame.id ≡ t → y ≡ part x frame.start frame.stop → y ≡ inside t x
    unfolding inside_at
    inside_wanted t y same q = q ∙ cond_true _ _ (eq-eqb frame.id t same) ∙ ap (inside_at t x) (sym e ∙ found)

    pub inside_other : (t : ℕ) (y : List ℕ) → (frame.id ≡ t → ⊥) → y ≡ part x 0 0 → y ≡ inside t x
    unfolding inside_at
    inside_other t y other q = q ∙ cond_false _ _ (ne_eqb frame.id t other) ∙ ap (inside_at t x) (sym e ∙ found)

    pub id_framed : (c : List ℕ) (n : Option ℕ) → c ≡ part x frame.start frame.stop → n ≡ number_under 0x02 frame.id c → n ≡ id_in x
    unfolding id_at
    id_framed c n p q = q ∙ ap (number_under 0x02 frame.id) p ∙ ap (id_at x) (sym e ∙ found)
