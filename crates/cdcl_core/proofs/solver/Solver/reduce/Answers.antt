use Rattle.std.proofs.Common.{◌≡◌, true, false, refl, sym, ◌∙◌, subst}
use Rattle.proof_laws.specs.declared.line.Line.TheVariants.{Reduce}
use Rattle.cdcl_core.specs.Ledgers.{IsLedger}
use Rattle.cdcl_core.specs.Work.{SolverValue, IsWorking, NamesLearned}
use Rattle.cdcl_core.proofs.LedgerLines.{ledger_stopped}
use Rattle.cdcl_core.proofs.Working.{done_working, learns_unchanged, steps_none, working_listed}
use Rattle.cdcl_core.proofs.solver.Solver.reduce.Goals as goal

pub returns-in_err-named-clause-steps : goal.returns-in_err-named-clause-steps
returns-in_err-named-clause-steps g c = steps_none g.R.Recorder.seen _ _ _ refl refl refl refl c.requires.working

pub returns-in_err-named-clause-learns : goal.returns-in_err-named-clause-learns
returns-in_err-named-clause-learns g c = learns_unchanged g.R.Recorder.seen c.args.self.now _ _ refl refl

pub returns-then-is_empty-clause-working : goal.returns-then-is_empty-clause-working
returns-then-is_empty-clause-working g c =
    let working = subst (IsWorking g.R.Recorder.seen) (sym c.self.view_is) c.requires.working in
    working_listed g.R.Recorder.seen _ c.stop.new.self (subst (IsLedger _ _ c.self.inside.next) (sym c.stop.ensures) (ledger_stopped _ _ c.self.inside.next c.self.inside.ledger working.taken.held.listed)) working

pub returns-then-is_empty-clause-ends : goal.returns-then-is_empty-clause-ends
returns-then-is_empty-clause-ends g c = done_working g.R.Recorder.seen _ (returns-then-is_empty-clause-working g c)

pub returns-then-is_empty-clause-steps : goal.returns-then-is_empty-clause-steps
returns-then-is_empty-clause-steps g c = steps_none g.R.Recorder.seen _ _ _ c.self.view_is refl refl refl c.requires.working

pub returns-then-is_empty-clause-learns : goal.returns-then-is_empty-clause-learns
returns-then-is_empty-clause-learns g c = learns_unchanged g.R.Recorder.seen _ _ _ c.self.view_is refl

pub reduce_by-requires-clause-names : goal.reduce_by-requires-clause-names
reduce_by-requires-clause-names g c =
    let named = c.in_ok-named.field-0.named in
    subst (λ (s : SolverValue _). NamesLearned s (Reduce named)) c.self.view_is (record {
      named = named;
      is = refl;
      some = λ none. (let both : true ≡ false = sym (c.is_empty.ensures.1 none) ∙ c.if-is_empty.false in cc);
      part = c.in_ok-named.ensures.named;
      live = c.in_ok-named.ensures.live;
    })
