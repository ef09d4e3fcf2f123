use Rattle.std.proofs.Common.{◌≡◌, ℕ, ◌+◌, ◌-◌, ◌<◌, ◌≤◌, drop}
use Rattle.std.specs.List.{AllPairs}
use Rattle.pb_lin.specs.Constraint.{total}
use Rattle.cutting_planes.specs.Runs.{nonzero, weakened_all}
use Rattle.cutting_planes.proofs.weaken.clear_all.Given as goal

abbrev pub invariant-loop-token : goal.invariant-loop-token
invariant-loop-token l = record {
  value : (degree : ℕ) → weakened_all (drop l.token-index l.run) (record { terms = nonzero l.terms; degree = degree - l.lost }) ≡ weakened_all l.run (record { terms = nonzero l.initial.terms; degree = degree });
  rising : AllPairs (λ s t. s.0.var < t.0.var) l.terms;
  small : total l.terms + l.lost ≤ total l.initial.terms;
}
