use Rattle.std.proofs.Common.{◌≡◌, ◌/◌, ◌++◌, map, take, drop}
use Rattle.cdcl_state.proofs.heap.halve_all.Given as goal

abbrev pub invariant-loop-number : goal.invariant-loop-number
invariant-loop-number l = l.numbers ≡ map (λ a. a / 2) (take l.number-index l.fn.numbers) ++ drop l.number-index l.fn.numbers
