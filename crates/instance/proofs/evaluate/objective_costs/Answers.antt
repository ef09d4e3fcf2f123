use Rattle.std.proofs.Common.{◌≡◌, ◌<◌, ◌++◌, ◌∷◌, [], ◌^◌, ℤ, unsigned_abs, subst, sym, arith, rules}
use Rattle.std.specs.Prelude.{All}
use Rattle.std.proofs.lemmas.Grind.{common_steps}
use Rattle.std.proofs.lemmas.List.Elements.{All-push}
use Rattle.instance.proofs.evaluate.objective_costs.Goals as goal

pub loop-objective-preserved : goal.loop-objective-preserved
loop-objective-preserved c =
    let pushed : c.push.new.self.items ≡ c.loop-objective.costs.items ++ c.objective_cost.result ∷ [] = search rules in
    record {
      costs = grind (arith, common_steps, pushed, c.objective_cost.ensures.cost);
      small = subst (All (λ (x : ℤ). unsigned_abs x < 2 ^ 63)) (sym pushed) (All-push (λ (x : ℤ). unsigned_abs x < 2 ^ 63) c.loop-objective.costs.items c.objective_cost.result c.loop-objective.invariant.small c.objective_cost.ensures.small);
    }
