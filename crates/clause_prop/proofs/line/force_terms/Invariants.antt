use Rattle.clause_prop.proofs.Visits.{IsVisited}
use Rattle.clause_prop.proofs.line.force_terms.Given as goal

abbrev pub invariant-loop-at : goal.invariant-loop-at
invariant-loop-at l = IsVisited l.line l.id l.line_slack l.fn.trail l.trail l.at
