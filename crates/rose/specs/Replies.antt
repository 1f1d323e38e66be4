-- The APDUs that receive writes itself.
use Rattle.std.specs.Prelude.{ℕ, List, [], ◌∷◌}
use Rattle.base.specs.Octets.{part}
use Rattle.optable.specs.Service.{probe_code}
use Rattle.protocol.specs.Service.{reply}
use Rattle.rose.specs.declared.reply.Reply.{Reply}
use Rattle.rose.specs.declared.reply.Reply.TheVariants.{Result, Fetched}

abbrev pub replied : List ℕ → Reply → List (List ℕ)
replied store (Result i c n) = reply i.0 c n ∷ []
replied store (Fetched i p) = reply i.0 probe_code 1 ∷ part store p.at p.end ∷ []
