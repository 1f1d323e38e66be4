-- Whether a list of rules is Ok is whether each holds.
use Rattle.std.specs.Prelude.{Result, Ok, Err, is_ok}
use Rattle.std.specs.Result.{result_and}
use Rattle.std.proofs.Common.{◌≡◌, Bool, true, false, ◌&&◌, refl}
use Rattle.optable.specs.Fault.{needs}

pub ok_needs : {E : Type 0} (h : Bool) (e : E) (behind : Result (Unit {0}) E) {rest : Bool} → is_ok behind ≡ rest → is_ok (needs h e behind) ≡ (h && rest)
ok_needs true e behind {rest} p = p
ok_needs false e behind {rest} p = refl

pub ok_last : {E : Type 0} (h : Bool) (e : E) → is_ok (needs h e (Ok tt)) ≡ h
ok_last true e = refl
ok_last false e = refl

pub ok_and : {E : Type 0} (a b : Result (Unit {0}) E) {x y : Bool} → is_ok a ≡ x → is_ok b ≡ y → is_ok (result_and a b) ≡ (x && y)
ok_and (Ok u) b {x} {y} p q = rw (← p) q
ok_and (Err e) b {x} {y} p q = rw (← p) refl
