use Rattle.std.proofs.Common.{◌≡◌, ◌<◌, ◌^◌, unsigned_abs, take, map}
use Rattle.std.specs.Prelude.{All}
use Rattle.instance.specs.Meaning.{objective_cost}
use Rattle.instance.proofs.evaluate.objective_costs.Given as goal

abbrev pub invariant-loop-objective : goal.invariant-loop-objective
invariant-loop-objective l = record {
  costs : l.costs.items ≡ map (objective_cost l.a) (take l.objective-index l.objectives);
  small : All (λ x. unsigned_abs x < 2 ^ 63) l.costs.items;
}
