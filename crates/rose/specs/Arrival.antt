-- What becomes of a received APDU, in the definitions' words.
use Rattle.std.specs.Prelude.{ℕ, List, [], Result, Ok, Err, Some, None}
use Rattle.records.specs.Held.{Held}
use Rattle.protocol.specs.declared.Refusal.{Refusal as Reason}
use Rattle.protocol.specs.Call.{Answer, accepted, refused}
use Rattle.protocol.specs.Reading.{read_refusal, read_indication}
use Rattle.rose.specs.declared.arrival.Arrival.{Arrival}
use Rattle.rose.specs.declared.arrival.Arrival.TheVariants.{Indicated, Answered}
use Rattle.rose.specs.Changes.{after}
use Rattle.rose.specs.Replies.{replied}

-- the octets x are indicated, answered or refused, and the end s holds then what the change leaves
abbrev pub told : List ℕ → Held → Result Arrival Reason → Answer
told x s (Ok (Indicated i g)) = accepted (Some (read_indication x i)) (after s g) []
told x s (Ok (Answered r g)) = accepted None (after s g) (replied s.store r)
told x s (Err why) = refused (read_refusal why)
