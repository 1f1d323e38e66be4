-- The classes of operations, and their octets (docs/RULES.md, 'Operation table').
use Rattle.std.specs.Prelude.{ℕ, if◌then◌else◌, ◌==◌}
use Rattle.optable.specs.declared.class.Class.{Class}
use Rattle.optable.specs.declared.class.Class.TheVariants.{Synchronous, Asynchronous, ErrorOnly, ResultOnly, Unanswered, Unknown}

-- the class that an octet says
abbrev pub class_with : ℕ → Class
class_with n =
    if n == 1 then Synchronous
    else if n == 2 then Asynchronous
    else if n == 3 then ErrorOnly
    else if n == 4 then ResultOnly
    else if n == 5 then Unanswered
    else Unknown n

-- the octet of a class
abbrev pub class_number : Class → ℕ
class_number Synchronous = 1
class_number Asynchronous = 2
class_number ErrorOnly = 3
class_number ResultOnly = 4
class_number Unanswered = 5
class_number (Unknown n) = n
