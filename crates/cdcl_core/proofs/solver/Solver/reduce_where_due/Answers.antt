use Rattle.std.proofs.Common.{ap, refl, ◌∙◌, subst}
use Rattle.proof_laws.specs.State.{StateValue}
use Rattle.proof_laws.proofs.Replays.{replay_once}
use Rattle.oracle.specs.Solving.{Reaches}
use Rattle.cdcl_core.specs.Ledgers.{IsDue}
use Rattle.cdcl_core.specs.Work.{SolverValue}
use Rattle.cdcl_core.proofs.Working.{done_working, learns_unchanged, steps_none, working_searched}
use Rattle.cdcl_core.proofs.solver.Solver.reduce_where_due.Goals as goal

pub reduce-requires-clause-due : goal.reduce-requires-clause-due
reduce-requires-clause-due g c =
    let rec = g.R.Recorder in
    let due = c.is_due.ensures.0 c.if-is_due.true in
    subst (λ (v : SolverValue _). Reaches (rec.seen v.recorder).problem (rec.seen v.recorder).lines (λ s. IsDue v.ledger.reductions s.learned)) c.self.view_is
    (λ s replay. subst (IsDue c.self.inside.ledger.reductions) (c.learned-learned.ensures ∙ ap (λ (t : StateValue). t.learned) (replay_once _ _ _ s c.state.ensures.replays replay)) due)

pub returns-clause-ends : goal.returns-clause-ends
returns-clause-ends g c = done_working g.R.Recorder.seen _ c.requires.working

pub returns-clause-steps : goal.returns-clause-steps
returns-clause-steps g c = steps_none g.R.Recorder.seen _ _ _ refl refl refl refl c.requires.working

pub returns-clause-learns : goal.returns-clause-learns
returns-clause-learns g c = learns_unchanged g.R.Recorder.seen c.args.self.now _ _ refl refl
