use Rattle.std.proofs.Common.{◌≡◌, ◌⊎◌, All, inl, inr, ap, refl, sym, subst, rules}
use Rattle.scut_base.specs.Literal.{Literal}
use Rattle.clause_prop.specs.Steps.{TrailValue}
use Rattle.oracle.specs.Solving.{AreAssumptions}
use Rattle.cdcl_state.specs.Analysis.{IsDecided}
use Rattle.cdcl_core.specs.Work.{IsLed}
use Rattle.cdcl_core.proofs.NamedLines.{trail_inside}
use Rattle.cdcl_core.proofs.Working.{done_working, implies_unchanged, steps_none, working_searched}
use Rattle.cdcl_core.proofs.Assuming.{AreMet, among_assumed, core_among, decided_parts, goes_on, read_false, solution_found}
use Rattle.cdcl_core.proofs.solver.Solver.decide.Goals as goal

pub returns-then-is_none-clause-progress : goal.returns-then-is_none-clause-progress
returns-then-is_none-clause-progress g c =
    let parts = decided_parts c.self.inside.search c.decide.new.self c.in-Some.lit c.decide.ensures in
    goes_on g.R.Recorder.seen _ _ _ c.args.assumptions.now c.in-Some.lit c.self.view_is refl c.requires.working c.requires.led parts.0 parts.1 (inl c.in-Some.ensures.unmet.0)

pub returns-then-is_none-clause-ends : goal.returns-then-is_none-clause-ends
returns-then-is_none-clause-ends g c =
    let parts = decided_parts c.self.inside.search c.decide.new.self c.in-Some.lit c.decide.ensures in
    done_working g.R.Recorder.seen _ (working_searched g.R.Recorder.seen _ _ _ c.self.view_is refl parts.0 (ap (λ (t : TrailValue). t.vars) parts.1) c.requires.working)

pub returns-then-is_none-clause-steps : goal.returns-then-is_none-clause-steps
returns-then-is_none-clause-steps g c = steps_none g.R.Recorder.seen _ _ _ c.self.view_is refl refl refl c.requires.working

pub returns-then-is_none-clause-implied : goal.returns-then-is_none-clause-implied
returns-then-is_none-clause-implied g c = implies_unchanged g.R.Recorder.seen _ _ _ _ c.self.view_is refl

pub blame-requires-clause-falsified : goal.blame-requires-clause-falsified
blame-requires-clause-falsified g c =
    let led = trail_inside (IsLed c.args.assumptions.now) _ _ c.self.view_is c.requires.led in
    let are = trail_inside (λ (t : TrailValue). AreAssumptions t.vars c.args.assumptions.now) _ _ c.self.view_is c.requires.assumptions in
    rw (← c.self.view_is) (read_false c.self.inside.search.store c.self.inside.search.trail c.args.assumptions.now c.in-Some.lit c.level-level.ensures.search are led c.in-Some.ensures.unmet.0
    c.value.result c.is_none.result c.value.ensures c.is_none.ensures c.if-is_none.false c.in-Some.ensures.unmet.1)

pub returns-then-choose-clause-progress : goal.returns-then-choose-clause-progress
returns-then-choose-clause-progress g c =
    let chosen = c.if-choose.ensures.chosen (search rules) in
    goes_on g.R.Recorder.seen _ _ _ c.args.assumptions.now chosen.0 c.self.view_is refl c.requires.working c.requires.led c.if-choose.ensures.store chosen.1 (inr c.in-None.ensures.met)

pub returns-then-choose-clause-ends : goal.returns-then-choose-clause-ends
returns-then-choose-clause-ends g c =
    let chosen = c.if-choose.ensures.chosen (search rules) in
    done_working g.R.Recorder.seen _ (working_searched g.R.Recorder.seen _ _ _ c.self.view_is refl c.if-choose.ensures.store (ap (λ (t : TrailValue). t.vars) chosen.1) c.requires.working)

pub returns-then-choose-clause-steps : goal.returns-then-choose-clause-steps
returns-then-choose-clause-steps g c = steps_none g.R.Recorder.seen _ _ _ c.self.view_is refl refl refl c.requires.working

pub returns-then-choose-clause-implied : goal.returns-then-choose-clause-implied
returns-then-choose-clause-implied g c = implies_unchanged g.R.Recorder.seen _ _ _ _ c.self.view_is refl

pub returns-in_err-model-in-None-clause-steps : goal.returns-in_err-model-in-None-clause-steps
returns-in_err-model-in-None-clause-steps g c = steps_none g.R.Recorder.seen _ _ _ c.self.view_is refl refl refl c.requires.working

pub returns-in_err-model-in-None-clause-implied : goal.returns-in_err-model-in-None-clause-implied
returns-in_err-model-in-None-clause-implied g c = implies_unchanged g.R.Recorder.seen _ _ _ _ c.self.view_is refl

pub returns-in_ok-core-in-Some-clause-progress : goal.returns-in_ok-core-in-Some-clause-progress
returns-in_ok-core-in-Some-clause-progress g c =
    let led = trail_inside (IsLed c.args.assumptions.now) _ _ c.self.view_is c.requires.led in
    let are = trail_inside (λ (t : TrailValue). AreAssumptions t.vars c.args.assumptions.now) _ _ c.self.view_is c.requires.assumptions in
    let falsified = read_false c.self.inside.search.store c.self.inside.search.trail c.args.assumptions.now c.in-Some.lit c.level-level.ensures.search are led c.in-Some.ensures.unmet.0
    c.value.result c.is_none.result c.value.ensures c.is_none.ensures c.if-is_none.false c.in-Some.ensures.unmet.1 in
    let among = trail_inside (λ (t : TrailValue). All (λ (m : Literal). (m ≡ c.in-Some.lit) ⊎ IsDecided t m) c.in_ok-core-in-Some.core.lits) _ _ c.self.view_is c.in_ok-core-in-Some.ensures.among in
    core_among _ _ c.args.assumptions.now c.in_ok-core-in-Some.core.lits c.in_ok-core-in-Some.core.id
    (among_assumed c.self.inside.search.store c.self.inside.search.trail c.args.assumptions.now c.in-Some.lit c.level-level.ensures.search are led c.in-Some.ensures.unmet.0
    c.in_ok-core-in-Some.core.lits falsified among) c.in_ok-core-in-Some.ensures.core

pub returns-in_ok-model-in-None-clause-progress : goal.returns-in_ok-model-in-None-clause-progress
returns-in_ok-model-in-None-clause-progress g c =
    let same = c.if-choose.ensures.stays refl in
    let now = working_searched g.R.Recorder.seen _ _ (record {
      recorder = c.self.inside.recorder;
      limit = c.self.inside.limit;
      broken = c.self.inside.broken;
      search = c.choose.new.self;
      next = c.self.inside.next;
      rows = c.self.inside.rows;
      ledger = c.self.inside.ledger;
    }) c.self.view_is refl c.if-choose.ensures.store (ap (λ (t : TrailValue). t.vars) same) c.requires.working in
    solution_found g.R.Recorder.seen _ c.args.assumptions.now c.in_ok-model-in-None.model now
    c.in_ok-model-in-None.ensures.length c.in_ok-model-in-None.ensures.steps c.in_ok-model-in-None.ensures.holds
    (subst (λ (t : TrailValue). AreMet t c.args.assumptions.now) (sym same) c.in-None.ensures.met) c.stored_model_is_solution.ensures

pub returns-in_ok-model-in-None-clause-ends : goal.returns-in_ok-model-in-None-clause-ends
returns-in_ok-model-in-None-clause-ends g c =
    done_working g.R.Recorder.seen _ (working_searched g.R.Recorder.seen _ _ _ c.self.view_is refl c.if-choose.ensures.store (ap (λ (t : TrailValue). t.vars) (c.if-choose.ensures.stays refl)) c.requires.working)

pub returns-in_ok-model-in-None-clause-steps : goal.returns-in_ok-model-in-None-clause-steps
returns-in_ok-model-in-None-clause-steps g c = steps_none g.R.Recorder.seen _ _ _ c.self.view_is refl refl refl c.requires.working

pub returns-in_ok-model-in-None-clause-implied : goal.returns-in_ok-model-in-None-clause-implied
returns-in_ok-model-in-None-clause-implied g c = implies_unchanged g.R.Recorder.seen _ _ _ _ c.self.view_is refl
