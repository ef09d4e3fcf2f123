use Rattle.proof_rules.proofs.TakingUp.{value_state}
use Rattle.proof_rules.proofs.taking_up.take_up.Goals as goal

pub add-requires : goal.add-requires
add-requires c = value_state c.args.problem.now c.args.reached.now c.args.line.now c.requires.before c.requires.legal c.args.made c.in-Some.c c.requires.made c.in-Some.is
