use Rattle.std.proofs.Common.{List, length, ℤ, sym, ap, ◌∙◌, subst}
use Rattle.pb_lin.specs.Problem.{ProblemValue}
use Rattle.instance.specs.ParetoFront.{problem_vector}
use Rattle.representatives.specs.Bounded.{AreCostBounds, IsBounded}
use Rattle.representatives.specs.Laws.{AreGiven}
use Rattle.representatives.proofs.Limits.{as_many_costs, bounded_within}
use Rattle.representatives.proofs.bounded.bounded_problem.Goals as goal

pub bounded_rows-requires-clause-numbers : goal.bounded_rows-requires-clause-numbers
bounded_rows-requires-clause-numbers c = ap length c.as_slice.ensures ∙ c.in_ok-numbers.ensures.bounds.numbers ∙ sym (as_many_costs c.args.inst.now c.args.problem.now c.requires.normal)

pub from_parts-requires : goal.from_parts-requires
from_parts-requires c =
    let made = c.in_ok-rows.ensures in
    let q : ProblemValue = record { vars = c.vars.result; rows = c.in_ok-rows.rows; costs = c.new.result } in
    let given : AreGiven c.args.inst.now c.args.problem.now c.args.vec.now c.args.list.now = record { limits = c.vars-limits.ensures.limits; normal = c.requires.normal; vector = c.requires.vector; few = c.requires.few; long = c.requires.long } in
    let bounded : IsBounded c.args.problem.now (problem_vector c.args.inst.now c.args.vec.now) c.args.list.now q = record {
      vars = c.vars.ensures.value;
      bounds = made.0;
      are_bounds = subst (λ (us : List ℤ). AreCostBounds c.args.problem.now.costs us made.0) (c.as_slice.ensures ∙ c.in_ok-numbers.ensures.vector) made.1;
      rows = made.2;
      costs = c.new.ensures;
    } in
    bounded_within c.args.inst.now c.args.problem.now q c.args.vec.now c.args.list.now given bounded
