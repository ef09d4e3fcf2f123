use Rattle.std.proofs.Common.{◌≡◌, take}
use Rattle.command_trim.specs.Renames.{renaming}
use Rattle.command_trim.specs.Trimmed.{new_proofs}
use Rattle.command_trim.proofs.renamed.new_proofs.Given as goal

abbrev pub invariant-loop-goal : goal.invariant-loop-goal
invariant-loop-goal l = l.new ≡ new_proofs (renaming l.renames) (take l.goal-index l.proofs)
