use Rattle.std.proofs.Common.{ap, sym, ◌∙◌, length, eqb-true, refl}
use Rattle.pb_lin.specs.Problem.{ProblemValue}
use Rattle.cdcl_state.specs.Searching.{SearchValue}
use Rattle.cdcl_core.proofs.HeldLines.{held_nothing}
use Rattle.cdcl_core.proofs.LedgerLines.{ledger_nothing}
use Rattle.cdcl_core.proofs.solver.Solver.new.Goals as goal

pub invariant_of-result : goal.invariant_of-result
invariant_of-result g c whole = (
  c.requires.whole,
  held_nothing g.R.Recorder.seen _ c.state-state.result.now
      c.state-state.ensures.replays c.vars-vars.ensures.state
      (ap length c.rows.ensures ∙ ap (λ (p : ProblemValue). length p.rows) c.requires.problem)
      (ap (λ (s : SearchValue). s.store) c.in-Ok.ensures) (ap (λ (s : SearchValue). s.trail.vars) c.in-Ok.ensures) refl
      (ledger_nothing _ _ c.new-in-Ok.result _ c.new-in-Ok.ensures.ids c.new-in-Ok.ensures.number
      (λ test. c.first_line_is_no_reduction.ensures _ _ _ c.state-state.ensures.replays (sym c.lines-begins.ensures ∙ eqb-true _ _ test)))
      c.line_is_passed.ensures.none c.nothing_is_stored.ensures,
)
