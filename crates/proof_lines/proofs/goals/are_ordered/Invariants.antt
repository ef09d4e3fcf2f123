use Rattle.proof_lines.proofs.Ordered.{IsBefore, OrderedUpTo}
use Rattle.proof_lines.proofs.goals.are_ordered.Given as goal

abbrev pub invariant-loop-at : goal.invariant-loop-at
invariant-loop-at l = OrderedUpTo IsBefore l.proofs l.at
