use Rattle.std.proofs.Common.{refl, sym, ap, subst}
use Rattle.proof_rules.specs.Recording.{KeepsRecorder}
use Rattle.oracle.specs.Solving.{AddsSearchLines, IsWithin}
use Rattle.cdcl_laws.proofs.SearchLines.{none_law}
use Rattle.cdcl_core.proofs.Working.{implies_unchanged, kept_none}
use Rattle.cdcl_core.proofs.solver.Solver.answer.Goals as goal

pub returns-in_err-take_up-clause-steps : goal.returns-in_err-take_up-clause-steps
returns-in_err-take_up-clause-steps g c =
    let seen = g.R.Recorder.seen in
    let old = c.args.self.now in
    let same = sym c.take_up.ensures.recorder in
    record {
      begun = c.take_up.ensures.begun;
      limit = c.take_up.ensures.limit;
      kept = subst (λ (r : _). KeepsRecorder (seen old.recorder) (seen r)) same (kept_none _);
      within = subst (λ (r : _). IsWithin old.limit (seen old.recorder).problem (seen r).lines) same c.requires.within;
      adds = subst (λ (r : _). AddsSearchLines (seen old.recorder).problem (seen old.recorder).lines (seen r).lines) same (none_law _ _).adds;
    }

pub returns-in_err-take_up-clause-implied : goal.returns-in_err-take_up-clause-implied
returns-in_err-take_up-clause-implied g c =
    implies_unchanged g.R.Recorder.seen c.args.self.now _ _ _ refl (ap (λ (r : g.row.R.Denot). (g.R.Recorder.seen r).lines) c.take_up.ensures.recorder)
