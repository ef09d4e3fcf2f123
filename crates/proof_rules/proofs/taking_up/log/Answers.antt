use Rattle.proof_rules.proofs.TakingUp.{costs_upto, model_placed}
use Rattle.proof_rules.proofs.taking_up.log.Goals as goal

pub assignment_of-requires : goal.assignment_of-requires
assignment_of-requires c = model_placed c.args.problem.now c.args.model.now c.requires.model

pub costs_of-requires : goal.costs_of-requires
costs_of-requires c = costs_upto c.args.problem.now c.args.model.now c.in_ok-a.a c.costs.result.now c.requires.problem c.requires.model c.in_ok-a.ensures c.costs.ensures
