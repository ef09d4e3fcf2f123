use Rattle.std.proofs.Common.{◌≡◌, ◌++◌, map, take}
use Rattle.representatives.specs.Bounded.{blocking}
use Rattle.representatives.proofs.bounded.add_blocking.Given as goal

abbrev pub invariant-loop-model : goal.invariant-loop-model
invariant-loop-model l = l.rows ≡ l.initial.rows ++ map blocking (take l.model-index l.list)
