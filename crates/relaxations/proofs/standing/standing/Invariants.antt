use Rattle.std.specs.Prelude.{◌≡◌, ◌-◌, ◌++◌, false, length, map, replicate, take}
use Rattle.relaxations.specs.Cores.{stands_in}
use Rattle.relaxations.proofs.standing.standing.Given as goal

abbrev pub invariant-loop-excess : goal.invariant-loop-excess
invariant-loop-excess l = l.stands ≡ map (λ b. stands_in b l.fn.core) (take l.excess-index l.fn.excesses)

abbrev pub invariant-loop-rest : goal.invariant-loop-rest
invariant-loop-rest l =
    l.stands ≡ map (λ b. stands_in b l.fn.core) l.fn.excesses ++ replicate (l._rest - length l.fn.excesses) false
