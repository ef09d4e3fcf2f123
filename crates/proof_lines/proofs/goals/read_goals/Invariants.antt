use Rattle.std.proofs.Common.{length}
use Rattle.proof_lines.specs.LineText.{goal_words}
use Rattle.proof_lines.specs.Witnessed.{IsProved}
use Rattle.proof_lines.proofs.Items.{ItemsSoFar}
use Rattle.proof_lines.proofs.GoalCode.{EndsAfter}
use Rattle.proof_lines.proofs.goals.read_goals.Given as goal

abbrev pub invariant-loop-alloc : goal.invariant-loop-alloc
invariant-loop-alloc l = ItemsSoFar (goal_words l.fn.spelling) IsProved EndsAfter l.fn.words l.words l.proofs

abbrev pub decreases-loop-alloc : goal.decreases-loop-alloc
decreases-loop-alloc l = length l.words
