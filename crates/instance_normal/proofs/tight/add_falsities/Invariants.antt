use Rattle.std.proofs.Common.{◌≡◌, ◌++◌, not, take, map, filter}
use Rattle.instance.specs.Meaning.{clause_true}
use Rattle.instance_normal.specs.NormalForm.{is_relaxed}
use Rattle.instance_normal.proofs.tight.add_falsities.Given as goal

abbrev pub invariant-loop-soft : goal.invariant-loop-soft
invariant-loop-soft l = l.values.items ≡ l.initial.values.items ++ map (λ s. not (clause_true l.a s.lits)) (filter is_relaxed (take l.soft-index l.softs))
