use Rattle.std.proofs.Common.{ℕ}
use Rattle.proof_lines.proofs.RisingLists.{RisesUpTo}
use Rattle.proof_lines.proofs.lists.are_rising.Given as goal

abbrev pub invariant-loop-at : goal.invariant-loop-at
invariant-loop-at l = RisesUpTo (λ (i : ℕ). i) l.ids l.at
