use Rattle.std.proofs.Common.{refl, rules, ap, ◌∙◌}
use Rattle.proof_rules.specs.Recording.{Snapshot}
use Rattle.cdcl_core.proofs.HeldLines.{held_added, held_seen}
use Rattle.cdcl_core.proofs.solver.SolverRecorder.add_line.Goals as goal

pub invariant_of-self : goal.invariant_of-self
invariant_of-self g c whole = (
  c.in-Ok.ensures.whole,
  held_added g.R.Recorder.seen _ _ c.args.line.now c.state.result.now (c.self.invariant whole).1 c.in-Ok.ensures.keeps.problem c.in-Ok.ensures.added c.state.ensures.replays c.vars-vars.ensures.state refl refl
      c.drop_deleted.ensures.store c.drop_deleted.ensures.vars c.note.ensures,
)

pub invariant_of-self-in-Err-Full : goal.invariant_of-self-in-Err-Full
invariant_of-self-in-Err-Full g c whole =
    let same = c.in-Err-Full.ensures.full_same (search rules) in
    (ap (λ (x : Snapshot). x.broken) same ∙ (c.self.invariant whole).0, held_seen g.R.Recorder.seen _ _ (c.self.invariant whole).1 same refl)
