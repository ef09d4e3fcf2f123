use Rattle.std.proofs.Common.{◌≡◌, take, true}
use Rattle.std.specs.List.{list_all}
use Rattle.instance.specs.Meaning.{clause_true}
use Rattle.instance.proofs.evaluate.all_clauses_true.Given as goal

abbrev pub invariant-loop-at : goal.invariant-loop-at
invariant-loop-at l = list_all (clause_true l.a) (take l.at l.clauses) ≡ true
