use Rattle.std.proofs.Common.{◌≡◌, ◌++◌, ◌*◌, map, take, drop}
use Rattle.cutting_planes.proofs.scale.multiplied_terms.Given as goal

abbrev pub invariant-loop-term : goal.invariant-loop-term
invariant-loop-term l = l.term-items ≡ map (λ t. (t.0, t.1 * l.factor)) (take l.term-index l.initial.term-items) ++ drop l.term-index l.initial.term-items
