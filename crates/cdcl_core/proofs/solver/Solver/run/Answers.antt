use Rattle.std.proofs.Common.{Ok, ◌≡◌, ◌-◌, ◌+◌, sym, ap, ◌∙◌, subst, refl, arith, inl, inr}
use Rattle.pb_lin.specs.Problem.{ProblemValue}
use Rattle.proof_rules.specs.Recording.{KeepsRecorder}
use Rattle.cdcl_trail.specs.SearchTrail.{IsSearchTrail}
use Rattle.cdcl_laws.specs.SearchLines.{AddsLearned}
use Rattle.cdcl_laws.proofs.SearchLines.{none_law, joined_law}
use Rattle.cdcl_core.specs.Ledgers.{left}
use Rattle.cdcl_core.specs.declared.progress.Progress.{Progress}
use Rattle.cdcl_core.specs.Work.{SolverValue, IsAnsweredCore, IsLed, LearnsAlone}
use Rattle.cdcl_core.proofs.Turns.{led_back, vars_back, led_undecided, turn_on}
use Rattle.cdcl_core.proofs.Endings.{fewer_law, nearer_law}
use Rattle.cdcl_core.proofs.ImpliedLines.{implied_later}
use Rattle.cdcl_core.proofs.Working.{kept_none, kept_twice, steps_twice, working_searched}
use Rattle.cdcl_core.proofs.solver.Solver.run.Goals as goal
use Rattle.cdcl_core.proofs.solver.Solver.run.Goals.{in-Learned, in-Decided}

pub loop-since-init : goal.loop-since-init
loop-since-init g c = record {
  few = omega arith;
  working = c.requires.working;
  led = led_undecided c.args.assumptions.now c.args.self.now.search.trail c.requires.undecided;
  vars = refl;
  learns = none_law _ _;
  limit = refl;
  kept = kept_none _;
}

pub loop-since-smaller-then-restart_due : goal.loop-since-smaller-then-restart_due
loop-since-smaller-then-restart_due g c =
    let due = c.restart_due.ensures.0 c.if-restart_due.true in
    let before = c.loop-since.self.search.trail in
    let vars : c.back_to.new.self.trail.vars ≡ before.vars = vars_back 0 c.self.inside.search.trail c.back_to.new.self.trail c.back_to.ensures.trail ∙ ap (λ (v : SolverValue _). v.search.trail.vars) c.self.view_is in
    let same : left c.self.inside.ledger.reductions ≡ left c.loop-since.self.ledger.reductions = ap (λ (v : SolverValue _). left v.ledger.reductions) c.self.view_is in
    fewer_law (50 - (c.loop-since.restarts + 1) + left c.self.inside.ledger.reductions) (50 - c.loop-since.restarts + left c.loop-since.self.ledger.reductions) before c.back_to.new.self.trail vars (omega (arith, due.0, same))

pub loop-since-preserved-then-restart_due : goal.loop-since-preserved-then-restart_due
loop-since-preserved-then-restart_due g c =
    let due = c.restart_due.ensures.0 c.if-restart_due.true in
    let inv = c.loop-since.invariant in
    let seen = g.R.Recorder.seen in
    let e = sym c.self.view_is in
    let fn = c.args.self.now in
    let vars = vars_back 0 c.self.inside.search.trail c.back_to.new.self.trail c.back_to.ensures.trail in
    record {
      few = omega (arith, due.0);
      working = working_searched seen _ _ _ c.self.view_is refl c.back_to.ensures.store vars inv.working;
      led = led_back 0 c.self.inside.search.trail c.back_to.new.self.trail c.args.assumptions.now c.back_to.ensures.trail (subst (λ (v : SolverValue _). IsLed c.args.assumptions.now v.search.trail) e inv.led);
      vars = vars ∙ ap (λ (v : SolverValue _). v.search.trail.vars) c.self.view_is ∙ inv.vars;
      learns = subst (λ (v : SolverValue _). LearnsAlone seen fn v) e inv.learns;
      limit = subst (λ (v : SolverValue _). v.limit ≡ fn.limit) e inv.limit;
      kept = subst (λ (v : SolverValue _). KeepsRecorder (seen fn.recorder) (seen v.recorder)) e inv.kept;
    }

pub returns-in_err-answer-clause-steps : goal.returns-in_err-answer-clause-steps
returns-in_err-answer-clause-steps g c =
    let inv = c.loop-since.invariant in
    steps_twice g.R.Recorder.seen _ _ _ inv.learns inv.limit inv.kept c.turn.ensures.steps

pub returns-in_err-answer-clause-implied : goal.returns-in_err-answer-clause-implied
returns-in_err-answer-clause-implied g c first after goal hints is =
    absurd (implied_later _ _ _ _ _ (λ none. ⊥) c.loop-since.invariant.learns c.turn.ensures.steps.adds c.in_err-answer.ensures.implied first after goal hints is)

pub returns-in-Answered-clause-steps : goal.returns-in-Answered-clause-steps
returns-in-Answered-clause-steps g c =
    let inv = c.loop-since.invariant in
    steps_twice g.R.Recorder.seen _ _ _ inv.learns inv.limit inv.kept c.turn.ensures.steps

pub returns-in-Answered-clause-implied : goal.returns-in-Answered-clause-implied
returns-in-Answered-clause-implied g c first after goal hints is =
    subst (λ (p : Progress). IsAnsweredCore (Ok p) goal) c.in-Answered.is
    (implied_later _ _ _ _ _ _ c.loop-since.invariant.learns c.turn.ensures.steps.adds c.in_ok-answer.ensures.implied first after goal hints is)

pub loop-since-smaller : goal.loop-since-smaller
loop-since-smaller g c =
    let now = c.turn.new.self in
    let old = c.loop-since.self in
    let on = turn_on g.R.Recorder.seen c.args.assumptions.now old now c.in_ok-answer.field-0
    c.in_ok-answer.ensures.progress (elim c.match-branch-2.branch [ in-Learned w ↦ inl w.in-Learned.is | in-Decided w ↦ inr w.in-Decided.is ]) in
    nearer_law now.search.store (50 - c.loop-since.restarts) (left old.ledger.reductions) (left now.ledger.reductions) old.search.trail now.search.trail
    (subst (λ (v : SolverValue _). IsSearchTrail v.search.store v.search.trail) c.self-in-loop-since.view_is c.level-level.ensures.search) on.vars on.nearer

pub loop-since-preserved : goal.loop-since-preserved
loop-since-preserved g c =
    let seen = g.R.Recorder.seen in
    let now = c.turn.new.self in
    let old = c.loop-since.self in
    let fn = c.args.self.now in
    let inv = c.loop-since.invariant in
    let on = turn_on seen c.args.assumptions.now old now c.in_ok-answer.field-0
    c.in_ok-answer.ensures.progress (elim c.match-branch-2.branch [ in-Learned w ↦ inl w.in-Learned.is | in-Decided w ↦ inr w.in-Decided.is ]) in
    record {
      few = inv.few;
      working = on.working;
      led = on.led;
      vars = on.vars ∙ inv.vars;
      learns = joined_law _ _ _ _ inv.learns (subst (λ (p : ProblemValue). AddsLearned p (seen old.recorder).lines (seen now.recorder).lines) inv.kept.problem on.learns);
      limit = c.turn.ensures.steps.limit ∙ inv.limit;
      kept = kept_twice _ _ _ inv.kept c.turn.ensures.steps.kept;
    }
