-- One text is put out behind the other.
use Rattle.text.proofs.OutLaws.{adds_adds}
use Rattle.text.proofs.input.fail.Goals as goal

pub returns-clause-added : goal.returns-clause-added
returns-clause-added g c =
    record {
      words = c.without_number.result.now;
      added = adds_adds _ _ _ _ _ (adds_adds _ _ _ _ _ (adds_adds _ _ _ _ _ c.words.ensures.added c.words-2.ensures.added) c.words-3.ensures.added) c.words-4.ensures.added;
    }
