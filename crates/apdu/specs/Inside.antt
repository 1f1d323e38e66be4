-- What stands inside octets that should be one element: the arguments of probe and acknowledge ('Probe and acknowledge').
use Rattle.std.specs.Prelude.{ℕ, cond, List, [], eqb, Option, Some, None}
use Rattle.base.specs.Octets.{part}
use Rattle.records.specs.Limits.{levels}
use Rattle.ber.specs.declared.element.Frame.{Frame}
use Rattle.ber.specs.Element.{well_formed, frame_of}
use Rattle.apdu.specs.Parse.{number_under}

-- the frame of octets that are exactly one element
unfoldable pub only_frame : List ℕ → Option Frame
only_frame x = cond (well_formed levels x) (frame_of x) None

unfoldable pub inside_at : ℕ → List ℕ → Option Frame → List ℕ
inside_at t x None = []
inside_at t x (Some f) = cond (eqb f.id t) (part x f.start f.stop) []

-- the contents of octets that are exactly one element, of identifier t; else no octets, which are no element
abbrev pub inside : ℕ → List ℕ → List ℕ
inside t x = inside_at t x (only_frame x)

unfoldable pub id_at : List ℕ → Option Frame → Option ℕ
id_at x None = None
id_at x (Some f) = number_under 0x02 f.id (part x f.start f.stop)

-- the id that octets are, exactly one 02 of 1 to 4 content octets
abbrev pub id_in : List ℕ → Option ℕ
id_in x = id_at x (only_frame x)
