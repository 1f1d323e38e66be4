-- The kinds and numbers of problems.
use Rattle.std.specs.Prelude.{ℕ}
use Rattle.apdu.specs.declared.problem.ProblemKind.{ProblemKind}
use Rattle.apdu.specs.declared.problem.ProblemKind.TheVariants.{Invoke, Result, Error}
use Rattle.rose.specs.declared.problem.Problem.{Problem}
use Rattle.rose.specs.declared.problem.Problem.TheVariants.{DuplicateInvocation, UnrecognizedOperation, MistypedArgument, ResourceLimitation, UnrecognizedLinkedId, LinkedResponseUnexpected, UnexpectedLinkedOperation, ResultUnrecognizedInvocation, ResultResponseUnexpected, MistypedResult, ErrorUnrecognizedInvocation, ErrorResponseUnexpected, UnrecognizedError, UnexpectedError, MistypedParameter}

abbrev pub problem_kind : Problem → ProblemKind
problem_kind DuplicateInvocation = Invoke
problem_kind UnrecognizedOperation = Invoke
problem_kind MistypedArgument = Invoke
problem_kind ResourceLimitation = Invoke
problem_kind UnrecognizedLinkedId = Invoke
problem_kind LinkedResponseUnexpected = Invoke
problem_kind UnexpectedLinkedOperation = Invoke
problem_kind ResultUnrecognizedInvocation = Result
problem_kind ResultResponseUnexpected = Result
problem_kind MistypedResult = Result
problem_kind ErrorUnrecognizedInvocation = Error
problem_kind ErrorResponseUnexpected = Error
problem_kind UnrecognizedError = Error
problem_kind UnexpectedError = Error
problem_kind MistypedParameter = Error

abbrev pub problem_number : Problem → ℕ
problem_number DuplicateInvocation = 0
problem_number UnrecognizedOperation = 1
problem_number MistypedArgument = 2
problem_number ResourceLimitation = 3
problem_number UnrecognizedLinkedId = 5
problem_number LinkedResponseUnexpected = 6
problem_number UnexpectedLinkedOperation = 7
problem_number ResultUnrecognizedInvocation = 0
problem_number ResultResponseUnexpected = 1
problem_number MistypedResult = 2
problem_number ErrorUnrecognizedInvocation = 0
problem_number ErrorResponseUnexpected = 1
problem_number UnrecognizedError = 2
problem_number UnexpectedError = 3
problem_number MistypedParameter = 4
