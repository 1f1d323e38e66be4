-- Where a received APDU is at fault.
use Rattle.std.specs.Prelude.{ℕ}
use Rattle.apdu.specs.Parse.{Apdu, badly_structured, unrecognized, mistyped, invoke, result, error, reject}

-- where octets are at fault that are no APDU
abbrev pub fault_in : Apdu → ℕ
fault_in (badly_structured p) = p
fault_in unrecognized = 0
fault_in (mistyped i) = 0
fault_in (invoke i n c v) = 0
fault_in (result i b) = 0
fault_in (error i c v) = 0
fault_in (reject i kind p) = 0
