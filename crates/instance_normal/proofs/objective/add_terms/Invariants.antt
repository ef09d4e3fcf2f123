use Rattle.std.proofs.Common.{◌≡◌, ◌++◌, take, map}
use Rattle.instance.specs.ParetoFront.{problem_number}
use Rattle.instance_normal.proofs.objective.add_terms.Given as goal

abbrev pub invariant-loop-term : goal.invariant-loop-term
invariant-loop-term l = l.terms ≡ l.initial.terms ++ map (λ t. (problem_number l.sense t.0, t.1)) (take l.term-index l.more)
