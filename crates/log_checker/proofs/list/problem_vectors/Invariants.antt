use Rattle.std.proofs.Common.{◌≡◌, take, map}
use Rattle.instance.specs.ParetoFront.{problem_vector}
use Rattle.log_checker.proofs.list.problem_vectors.Given as goal

abbrev pub invariant-loop-entry : goal.invariant-loop-entry
invariant-loop-entry l = l.all.items ≡ map (λ e. problem_vector l.inst e.costs) (take l.entry-index l.entries)
