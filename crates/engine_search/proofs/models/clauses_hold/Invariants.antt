use Rattle.std.proofs.Common.{◌-◌, ◌^◌}
use Rattle.engine_search.proofs.LiveClauses.{HoldBelow}
use Rattle.engine_search.proofs.models.clauses_hold.Given as goal

abbrev pub invariant-loop-id : goal.invariant-loop-id
invariant-loop-id l = HoldBelow l.lines l.a l.id

abbrev pub decreases-loop-id : goal.decreases-loop-id
decreases-loop-id l = 2 ^ 64 - l.id
