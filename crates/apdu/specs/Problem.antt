-- The kinds of a Reject's problems: 'The four APDUs'.
use Rattle.std.specs.Prelude.{ℕ}
use Rattle.apdu.specs.declared.problem.ProblemKind.{ProblemKind}
use Rattle.apdu.specs.declared.problem.ProblemKind.TheVariants.{General, Invoke, Result, Error}

-- the identifier of a problem, by its kind
abbrev pub kind_octet : ProblemKind → ℕ
kind_octet General = 0x80
kind_octet Invoke = 0x81
kind_octet Result = 0x82
kind_octet Error = 0x83
