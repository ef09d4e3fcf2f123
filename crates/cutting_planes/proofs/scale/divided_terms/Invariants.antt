use Rattle.std.proofs.Common.{◌≡◌, ◌++◌, map, take, drop}
use Rattle.cutting_planes.specs.Rules.{rounded_up}
use Rattle.cutting_planes.proofs.scale.divided_terms.Given as goal

abbrev pub invariant-loop-term : goal.invariant-loop-term
invariant-loop-term l = l.term-items ≡ map (λ t. (t.0, rounded_up t.1 l.divisor)) (take l.term-index l.initial.term-items) ++ drop l.term-index l.initial.term-items
