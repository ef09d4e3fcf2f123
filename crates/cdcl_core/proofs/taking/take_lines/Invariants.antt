use Rattle.std.proofs.Common.{◌≡◌, ◌≤◌, ℕ, length, None}
use Rattle.std.specs.FinMap.{get}
use Rattle.pb_lin.specs.Problem.{ProblemValue}
use Rattle.cdcl_laws.specs.StoredLines.{IsStored}
use Rattle.cdcl_core.proofs.taking.take_lines.Given as goal

abbrev pub invariant-loop-id : goal.invariant-loop-id
invariant-loop-id g l = record {
  stored : (p : ProblemValue) → l.rows ≡ length p.rows → IsStored p l.state l.first l.fn.search.store → IsStored p l.state l.id l.search.store;
  trail : l.search.trail ≡ l.fn.search.trail;
  fresh : (k : ℕ) → l.id ≤ k → get l.search.store k ≡ None;
}
