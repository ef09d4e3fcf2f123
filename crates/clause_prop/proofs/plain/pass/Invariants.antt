use Rattle.std.proofs.Common.{◌-◌, ◌^◌}
use Rattle.clause_prop.proofs.Passes.{IsPassed}
use Rattle.clause_prop.proofs.plain.pass.Given as goal

abbrev pub invariant-loop-id : goal.invariant-loop-id
invariant-loop-id l = IsPassed l.store l.fn.trail l.trail l.id

abbrev pub decreases-loop-id : goal.decreases-loop-id
decreases-loop-id l = 2 ^ 64 - l.id
