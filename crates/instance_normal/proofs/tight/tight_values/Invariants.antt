use Rattle.std.proofs.Common.{◌≡◌, ◌++◌, not, take, map, filter}
use Rattle.std.specs.List.{flat_map}
use Rattle.instance.specs.Meaning.{clause_true}
use Rattle.instance_normal.specs.NormalForm.{is_relaxed}
use Rattle.instance_normal.proofs.tight.tight_values.Given as goal

abbrev pub invariant-loop-objective : goal.invariant-loop-objective
invariant-loop-objective l = l.values.items ≡ take l.inst.vars l.a ++ map (λ s. not (clause_true l.a s.lits)) (flat_map (λ o. filter is_relaxed o.softs) (take l.objective-index l.inst.objectives))
