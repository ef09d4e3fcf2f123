use Rattle.representatives.proofs.OneProblem.{one_problem_law}
use Rattle.representatives.proofs.laws.one_bounded_problem.Goals as goal

pub returns : goal.returns
returns c = one_problem_law
