use Rattle.proof_rules.proofs.Starts.{made_start}
use Rattle.proof_rules.proofs.reached.Reached.new.Goals as goal

pub invariant_of-result : goal.invariant_of-result
invariant_of-result c =
    made_start c.args.problem.now c.vars.result c.rows-rows.result.now c.in_ok-numbered.field-0 c.new.result c.vars.ensures.problem c.vars.ensures.value c.rows-rows.ensures c.in_ok-numbered.ensures c.new.ensures
