use Rattle.clause_prop.proofs.Visits.{IsVisited}
use Rattle.clause_prop.proofs.line.force_literals.Given as goal

abbrev pub invariant-loop-lit : goal.invariant-loop-lit
invariant-loop-lit l = IsVisited l.line l.id 0 l.fn.trail l.trail l.lit-index
