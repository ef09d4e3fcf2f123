-- A vector below the fence was logged.
use Rattle.std.proofs.Common.{◌∙◌, sym, subst}
use Rattle.pb_lin.specs.Problem.{ProblemValue}
use Rattle.lower_bounding.specs.Fences.{Serves}
use Rattle.lower_bounding.proofs.Raised.{finds_inside}
use Rattle.lower_bounding.proofs.fence.FenceAims.found.Goals as goal

pub returns-clause-found : goal.returns-clause-found
returns-clause-found c = λ a m b x serves tells took. (
  finds_inside a m b x c.args.self.now.fence took.problem took.none tells.1 took.taken,
  subst (λ (p : ProblemValue). Serves c.args.self.now p) (sym (took.same ∙ took.problem)) serves,
)
