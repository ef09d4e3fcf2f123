use Rattle.std.proofs.Common.{◌≡◌, ◌++◌, ◌∷◌, take, codes}
use Rattle.std.specs.List.{flat_map}
use Rattle.std.specs.Fmt.{signed_decimal}
use Rattle.front_text.proofs.print.append_costs.Given as goal

abbrev pub invariant-loop-cost : goal.invariant-loop-cost
invariant-loop-cost l = l.text.items ≡ l.fn.text.items ++ (codes "o" ++ flat_map (λ c. 32 ∷ signed_decimal c) (take l.cost-index l.costs))
