use Rattle.std.proofs.Common.{refl}
use Rattle.proof_lines.proofs.Ordered.{IsBefore, before_joins, ordered_pairs}
use Rattle.proof_lines.proofs.goals.are_ordered.Goals as goal

pub returns : goal.returns
returns c = (λ passed. ordered_pairs IsBefore c.args.proofs.now c.loop-at.at before_joins c.loop-at-test.false c.loop-at.invariant, λ ordered. refl)
