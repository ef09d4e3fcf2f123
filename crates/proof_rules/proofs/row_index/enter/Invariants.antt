use Rattle.std.proofs.Common.{◌≡◌, ◌++◌, map, take}
use Rattle.proof_rules.proofs.row_index.enter.Given as goal

abbrev pub invariant-loop-literal : goal.invariant-loop-literal
invariant-loop-literal l = l.entries.items ≡ l.fn.entries.items ++ map (λ m. (m.var, l.place)) (take l.literal-index l.literals)
