-- A class keeps the octet that it was read from.
use Rattle.std.proofs.Common.{◌≡◌, ℕ, Bool, true, false, eqb, refl, sym, eqb-true}
use Rattle.optable.specs.Class.{class_with, class_number}

pub class_octet : (n : ℕ) → class_number (class_with n) ≡ n
class_octet n = go (eqb n 1) refl (eqb n 2) refl (eqb n 3) refl (eqb n 4) refl (eqb n 5) refl
  where
    go : (a : Bool) → eqb n 1 ≡ a → (b : Bool) → eqb n 2 ≡ b → (c : Bool) → eqb n 3 ≡ c → (d : Bool) → eqb n 4 ≡ d → (e : Bool) → eqb n 5 ≡ e → class_number (class_with n) ≡ n
    go true p b q c r d s e t = rw p (sym (eqb-true n 1 p))
    go false p true q c r d s e t = rw (p, q) (sym (eqb-true n 2 q))
    go false p false q true r d s e t = rw (p, q, r) (sym (eqb-true n 3 r))
    go false p false q false r true s e t = rw (p, q, r, s) (sym (eqb-true n 4 s))
    go false p false q false r false s true t = rw (p, q, r, s, t) (sym (eqb-true n 5 t))
    go false p false q false r false s false t = rw (p, q, r, s, t) refl
