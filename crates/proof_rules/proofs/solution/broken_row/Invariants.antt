use Rattle.std.proofs.Common.{◌≡◌, ◌+◌, nat_lt, drop}
use Rattle.std.specs.List.{position_from}
use Rattle.pb_lin.specs.Constraint.{value}
use Rattle.proof_laws.specs.Refusal.{broken_row}
use Rattle.proof_rules.proofs.solution.broken_row.Given as goal

abbrev pub invariant-loop-at : goal.invariant-loop-at
invariant-loop-at l = broken_row l.a l.rows ≡ position_from (λ c. nat_lt (value l.a c.terms) c.degree) (l.at + 1) (drop l.at l.rows)
