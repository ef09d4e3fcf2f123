use Rattle.proof_rules.proofs.Conditions.{value_never_refused}
use Rattle.proof_rules.proofs.proof_state.legal_value.Goals as goal

pub unreachable-requires : goal.unreachable-requires
unreachable-requires c =
    value_never_refused c.args.reached.now c.args.line.now c.value_made.result c.in-Err-Refused.field-0 c.in-Err-Refused.field-0-0 c.requires c.value_made.ensures.verdict c.in-Err-Refused.is c.in-Err-Refused.field-0-is
