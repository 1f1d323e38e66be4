-- The search among the operations.
use Rattle.std.proofs.Common.{refl}
use Rattle.optable.proofs.LookupAnswers.{searched_answers}
use Rattle.optable.proofs.places.operation_place.Goals as goal

pub returns : goal.returns
returns c = searched_answers _ _ _ refl c.find_code.ensures
