-- What a received APDU's checks say.
use Rattle.std.specs.Prelude.{Some, None}
use Rattle.std.proofs.Common.{◌≡◌, List, sym}
use Rattle.protocol.specs.declared.Refusal.{Refusal as Reason}
use Rattle.protocol.specs.Call.{Answer, refused}
use Rattle.protocol.specs.Check.{Check, answer}
use Rattle.protocol.specs.Reading.{read_refusal}
use Rattle.rose.specs.Steps.{first}
use Rattle.rose.proofs.CheckLaws.{none_answers, some_answers}

pub refuses : (cs : List Check) (a : Answer) (why : Reason) → Some (read_refusal why) ≡ first cs → refused (read_refusal why) ≡ answer cs a
refuses cs a why h = sym (some_answers cs a (read_refusal why) (sym h))

pub accepts : (cs : List Check) (a : Answer) → None ≡ first cs → a ≡ answer cs a
accepts cs a h = sym (none_answers cs a (sym h))
