use Rattle.std.proofs.Common.{◌≡◌, ◌<◌, sym, ap, ◌∙◌, subst, refl}
use Rattle.pb_lin.specs.Problem.{ProblemValue}
use Rattle.cdcl_trail.specs.SearchTrail.{IsUndecided}
use Rattle.cdcl_trail.specs.Rank.{rank}
use Rattle.cdcl_laws.specs.SearchLines.{AddsLearned}
use Rattle.cdcl_laws.proofs.SearchLines.{joined_law}
use Rattle.cdcl_state.specs.Searching.{SearchValue}
use Rattle.cdcl_core.specs.Ledgers.{LedgerValue}
use Rattle.cdcl_core.specs.Work.{SolverValue, IsLed}
use Rattle.cdcl_core.proofs.Endings.{nearer_after}
use Rattle.cdcl_core.proofs.ImpliedLines.{none_implied}
use Rattle.cdcl_core.proofs.Turns.{undecided_at_zero}
use Rattle.cdcl_core.proofs.Working.{implies_unchanged, steps_after, steps_none}
use Rattle.cdcl_core.proofs.solver.Solver.learn_from.Goals as goal

pub refute-requires-clause-undecided : goal.refute-requires-clause-undecided
refute-requires-clause-undecided g c =
    subst (λ (v : SolverValue _). IsUndecided v.search.trail) c.self.view_is
    (undecided_at_zero c.self.inside.search.store c.self.inside.search.trail c.level.ensures.search (sym c.level.ensures.value ∙ c.if-level-eq0.true))

pub returns-in_err-lesson-clause-steps : goal.returns-in_err-lesson-clause-steps
returns-in_err-lesson-clause-steps g c = steps_none g.R.Recorder.seen _ _ _ c.self.view_is refl refl refl c.requires.working

pub returns-in_err-lesson-clause-implied : goal.returns-in_err-lesson-clause-implied
returns-in_err-lesson-clause-implied g c = implies_unchanged g.R.Recorder.seen _ _ _ _ c.self.view_is refl

pub returns-in_err-learn-clause-implied : goal.returns-in_err-learn-clause-implied
returns-in_err-learn-clause-implied g c = rw (← c.self.view_is) (none_implied _ _ _ _ c.in_err-learn.ensures.learns)

pub returns-in_err-reduce_where_due-clause-steps : goal.returns-in_err-reduce_where_due-clause-steps
returns-in_err-reduce_where_due-clause-steps g c =
    let learned = c.in_ok-learn.ensures in
    steps_after g.R.Recorder.seen _ _ _ _ c.self.view_is learned.learns learned.steps.limit learned.steps.kept c.reduce_where_due.ensures.steps

pub returns-in_err-reduce_where_due-clause-implied : goal.returns-in_err-reduce_where_due-clause-implied
returns-in_err-reduce_where_due-clause-implied g c =
    let learned = c.in_ok-learn.ensures in
    rw (← c.self.view_is) (none_implied _ _ _ _ (joined_law _ _ _ _ learned.learns
    (subst (λ (p : ProblemValue). AddsLearned p (g.R.Recorder.seen c.learn.new.self.recorder).lines (g.R.Recorder.seen c.reduce_where_due.new.self.recorder).lines) learned.steps.kept.problem c.reduce_where_due.ensures.learns)))

pub returns-clause-steps : goal.returns-clause-steps
returns-clause-steps g c =
    let learned = c.in_ok-learn.ensures in
    steps_after g.R.Recorder.seen _ _ _ _ c.self.view_is learned.learns learned.steps.limit learned.steps.kept c.reduce_where_due.ensures.steps

pub returns-clause-implied : goal.returns-clause-implied
returns-clause-implied g c =
    let learned = c.in_ok-learn.ensures in
    rw (← c.self.view_is) (none_implied _ _ _ _ (joined_law _ _ _ _ learned.learns
    (subst (λ (p : ProblemValue). AddsLearned p (g.R.Recorder.seen c.learn.new.self.recorder).lines (g.R.Recorder.seen c.reduce_where_due.new.self.recorder).lines) learned.steps.kept.problem c.reduce_where_due.ensures.learns)))

pub returns-clause-progress : goal.returns-clause-progress
returns-clause-progress g c assumptions asked =
    let seen = g.R.Recorder.seen in
    let learned = c.in_ok-learn.ensures in
    let reduced = c.in_ok-reduce_where_due.ensures in
    let now = c.reduce_where_due.new.self in
    let same : c.lesson.new.self ≡ c.args.self.now.search = c.in_ok-lesson.ensures.same ∙ ap (λ (v : SolverValue _). v.search) c.self.view_is in
    let number : c.learn.new.self.ledger.reductions ≡ c.args.self.now.ledger.reductions = learned.number ∙ ap (λ (l : LedgerValue). l.reductions) c.use_all.ensures ∙ ap (λ (v : SolverValue _). v.ledger.reductions) c.self.view_is in
    record {
      working = reduced.working;
      led = reduced.led assumptions (learned.led assumptions (subst (λ (s : SearchValue). IsLed assumptions s.trail) (sym same) asked));
      learns = rw (← c.self.view_is) (joined_law _ _ _ _ learned.learns
          (subst (λ (p : ProblemValue). AddsLearned p (seen c.learn.new.self.recorder).lines (seen now.recorder).lines) learned.steps.kept.problem reduced.learns));
      nearer = nearer_after c.args.self.now.search.trail c.learn.new.self.search.trail now.search.trail _ _ _ number
          (subst (λ (s : SearchValue). rank s.trail < rank c.learn.new.self.search.trail) same learned.rises) reduced.fewer;
      vars = reduced.vars ∙ learned.vars ∙ ap (λ (s : SearchValue). s.trail.vars) same;
    }
