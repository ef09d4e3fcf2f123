use Rattle.std.proofs.Common.{true, refl, sym, ap, ◌∙◌, subst}
use Rattle.oracle.specs.Solving.{AreEarned}
use Rattle.cdcl_core.specs.Work.{SolverValue, IsDone}
use Rattle.cdcl_core.proofs.HeldLines.{held_seen}
use Rattle.cdcl_core.proofs.Turns.{orderly_done, not_false}
use Rattle.cdcl_core.proofs.answering.SolverOracle.solve.Goals as goal

pub answer-result-requires-clause-done : goal.answer-result-requires-clause-done
answer-result-requires-clause-done g c =
    let seen = g.R.Recorder.seen in
    let has = c.self.invariant (ap (λ (v : SolverValue _). v.broken) c.self.view_is ∙ c.requires.whole) in
    record {
      whole = has.0;
      earned = subst (λ (v : SolverValue _). AreEarned (seen v.recorder).problem (seen v.recorder).lines) (sym c.self.view_is) c.requires.earned;
      held = held_seen seen _ _ has.1 refl refl;
    }

pub invariant_of-self-2 : goal.invariant_of-self-2
invariant_of-self-2 g c test =
    let at_work : SolverValue _ = record {
      recorder = c.self.inside.recorder;
      limit = c.self.inside.limit;
      broken = true;
      search = c.self.inside.search;
      next = c.self.inside.next;
      rows = c.self.inside.rows;
      ledger = c.self.inside.ledger;
    } in
    let done = orderly_done g.R.Recorder.seen at_work _ c.answer-result.result (c.is_orderly.ensures.orderly (not_false c.is_orderly.result test)) c.answer-result.ensures.ends in
    let moved = subst (IsDone g.R.Recorder.seen) (sym c.self-2.view_is) done in
    (moved.whole, held_seen g.R.Recorder.seen _ _ moved.held refl refl)
