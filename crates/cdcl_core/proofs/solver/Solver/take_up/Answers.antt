use Rattle.std.proofs.Common.{◌≡◌, sym, ap, ◌∙◌, subst, refl}
use Rattle.clause_prop.specs.Steps.{TrailValue}
use Rattle.cdcl_state.specs.Searching.{SearchValue}
use Rattle.oracle.specs.Solving.{Reaches}
use Rattle.cdcl_core.specs.Work.{SolverValue, IsHeld}
use Rattle.cdcl_core.proofs.Turns.{undecided_back, undecided_steps, vars_back, held_state, taken_up, grown_vars}
use Rattle.cdcl_core.proofs.solver.Solver.take_up.Goals as goal

pub take_lines-requires-clause-vars : goal.take_lines-requires-clause-vars
take_lines-requires-clause-vars g c =
    let held = subst (IsHeld g.R.Recorder.seen) (sym c.self.view_is) c.requires.held in
    grown_vars c.grow.new.self.trail.vars c.vars.result c.back_to.new.self.trail.vars c.self.inside.search.trail.vars c.state-state.result.now.vars
    (ap (λ (s : SearchValue). s.trail.vars) c.in_ok-grow.ensures.ok) (vars_back 0 c.self.inside.search.trail c.back_to.new.self.trail c.back_to.ensures.trail) c.vars.ensures.value
    (held_state g.R.Recorder.seen _ c.state-state.result.now held c.state-state.ensures.replays).1

pub take_lines-requires-clause-within : goal.take_lines-requires-clause-within
take_lines-requires-clause-within g c =
    let held = subst (IsHeld g.R.Recorder.seen) (sym c.self.view_is) c.requires.held in
    (held_state g.R.Recorder.seen _ c.state-state.result.now held c.state-state.ensures.replays).0

pub returns-clause-taken : goal.returns-clause-taken
returns-clause-taken g c =
    let seen = g.R.Recorder.seen in
    let held = subst (IsHeld seen) (sym c.self.view_is) c.requires.held in
    let unended = subst (λ (v : SolverValue _). Reaches (seen v.recorder).problem (seen v.recorder).lines (λ s. s.ended ≡ _)) (sym c.self.view_is) c.requires.unended in
    let known = held_state seen _ c.state-state.result.now held c.state-state.ensures.replays in
    taken_up seen _ _ c.grow.new.self c.state-state.result.now held unended c.state-state.ensures.replays refl c.next_id-self-inside.ensures
    (ap (λ (s : SearchValue). s.store) c.in_ok-grow.ensures.ok ∙ c.back_to.ensures.store) c.in_ok-take_lines.ensures.trail
    (grown_vars c.grow.new.self.trail.vars c.vars.result c.back_to.new.self.trail.vars c.self.inside.search.trail.vars c.state-state.result.now.vars
    (ap (λ (s : SearchValue). s.trail.vars) c.in_ok-grow.ensures.ok) (vars_back 0 c.self.inside.search.trail c.back_to.new.self.trail c.back_to.ensures.trail) c.vars.ensures.value known.1)
    c.in_ok-take_lines.ensures.stored

pub returns-clause-undecided : goal.returns-clause-undecided
returns-clause-undecided g c = undecided_steps c.back_to.new.self.trail c.take_lines.new.search.trail
    (ap (λ (t : TrailValue). t.steps) c.in_ok-take_lines.ensures.trail ∙ ap (λ (s : SearchValue). s.trail.steps) c.in_ok-grow.ensures.ok)
    (undecided_back c.back_to.new.self.store c.self.inside.search.trail c.back_to.new.self.trail c.level-level.ensures.search c.back_to.ensures.trail)
