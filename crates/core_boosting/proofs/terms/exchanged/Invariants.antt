-- The terms that are left, and those of the outputs so far.
use Rattle.std.proofs.Common.{◌≡◌, ◌++◌, map, take}
use Rattle.core_boosting.specs.Exchanging.{remaining}
use Rattle.core_boosting.proofs.terms.exchanged.Given as goal

abbrev pub invariant-loop-output : goal.invariant-loop-output
invariant-loop-output l = l.new ≡ remaining l.lits l.weight l.terms ++ map (λ o. (o, l.weight)) (take l.output-index l.outputs)
