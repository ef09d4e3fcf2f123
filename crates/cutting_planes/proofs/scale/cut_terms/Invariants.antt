use Rattle.std.proofs.Common.{◌≡◌, ◌++◌, min, map, take, drop}
use Rattle.cutting_planes.proofs.scale.cut_terms.Given as goal

abbrev pub invariant-loop-term : goal.invariant-loop-term
invariant-loop-term l = l.term-items ≡ map (λ t. (t.0, min t.1 l.degree)) (take l.term-index l.initial.term-items) ++ drop l.term-index l.initial.term-items
