use Rattle.std.proofs.Common.{◌≡◌, ◌++◌, drop}
use Rattle.instance.specs.ParetoFront.{problem_numbers}
use Rattle.instance.proofs.sense.problem_numbers.Given as goal

abbrev pub invariant-loop-i : goal.invariant-loop-i
invariant-loop-i l = l.all.items ++ problem_numbers (drop l.i l.objectives) (drop l.i l.numbers) ≡ problem_numbers l.objectives l.numbers
