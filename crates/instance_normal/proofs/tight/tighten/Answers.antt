use Rattle.std.proofs.Common.{◌∙◌}
use Rattle.std.proofs.lemmas.Result.{IfOk-weaker}
use Rattle.instance_normal.proofs.Tightening.{IsTight, tightens}
use Rattle.instance_normal.proofs.tight.tighten.Goals as goal

pub returns-clause-model : goal.returns-clause-model
returns-clause-model c = IfOk-weaker c.assigned.result (IsTight c.args.inst.now c.args.problem.now c.args.a.now) _ (λ b is. is.model) (tightens c.assigned.result c.args.inst.now c.args.problem.now c.args.a.now c.as_slice.result.now c.vars-within_limits.ensures.limits c.requires.normal c.requires.model (c.as_slice.ensures.value ∙ c.in_ok-values.ensures) c.assigned.ensures)

pub returns-clause-costs : goal.returns-clause-costs
returns-clause-costs c = IfOk-weaker c.assigned.result (IsTight c.args.inst.now c.args.problem.now c.args.a.now) _ (λ b is. is.costs) (tightens c.assigned.result c.args.inst.now c.args.problem.now c.args.a.now c.as_slice.result.now c.vars-within_limits.ensures.limits c.requires.normal c.requires.model (c.as_slice.ensures.value ∙ c.in_ok-values.ensures) c.assigned.ensures)

pub returns-clause-below : goal.returns-clause-below
returns-clause-below c = IfOk-weaker c.assigned.result (IsTight c.args.inst.now c.args.problem.now c.args.a.now) _ (λ b is. is.below) (tightens c.assigned.result c.args.inst.now c.args.problem.now c.args.a.now c.as_slice.result.now c.vars-within_limits.ensures.limits c.requires.normal c.requires.model (c.as_slice.ensures.value ∙ c.in_ok-values.ensures) c.assigned.ensures)
