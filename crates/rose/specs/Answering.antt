-- What answering an invocation does.
use Rattle.std.specs.Prelude.{ℕ, ◌≡◌, List}
use Rattle.codes.specs.declared.Code.{Code}
use Rattle.protocol.specs.Service.{keeps_answers}
use Rattle.rose.specs.declared.request.Answering.{Answering}

-- the invocation is of code c, and the answer is kept where those to c are
pub record Answers (T : List ℕ) (c : Code) (a : Answering) : Type 0 where
  pub code : a.code ≡ c
  pub keeps : a.keeps ≡ keeps_answers T c
