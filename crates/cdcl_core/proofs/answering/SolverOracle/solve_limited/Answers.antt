-- What a solver holds doesn't depend on its limit.
use Rattle.std.proofs.Common.{refl}
use Rattle.cdcl_core.proofs.HeldLines.{held_seen}
use Rattle.cdcl_core.proofs.answering.SolverOracle.solve_limited.Goals as goal

pub invariant_of-self : goal.invariant_of-self
invariant_of-self g c test =
    let has = c.self.invariant test in (has.0, held_seen g.R.Recorder.seen _ _ has.1 refl refl)

pub invariant_of-self-2 : goal.invariant_of-self-2
invariant_of-self-2 g c test =
    let has = c.self-2.invariant test in (has.0, held_seen g.R.Recorder.seen _ _ has.1 refl refl)
