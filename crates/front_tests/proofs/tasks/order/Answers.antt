-- A proof without lines is good.
use Rattle.std.proofs.Common.{◌≤◌, ◌∙◌, subst, sym}
use Rattle.pb_lin.specs.Problem.{ProblemValue}
use Rattle.proof_laws.specs.State.{StateValue}
use Rattle.sum_outputs.specs.Adding.{IsReached}
use Rattle.sum_outputs.proofs.LaterStates.{replay_vars}
use Rattle.front_tests.proofs.Beginnings.{begins_prepared}
use Rattle.front_tests.proofs.tasks.order.Goals as goal

pub order_of-requires-clause-good : goal.order_of-requires-clause-good
order_of-requires-clause-good g c =
    let R = g.O.Recorder in
    let a = R.seen c.args.oracle.now in
    let same = c.requires.problem in
    let prepared = begins_prepared a c.args.problem.now c.no_lines_are_prepared.ensures c.vars-vars.ensures.problem same c.requires.begun c.requires.whole in
    let vars = subst (λ (p : ProblemValue). (s : StateValue) → IsReached a s → p.vars ≤ s.vars) same (replay_vars a.problem a.lines) in
    let serve = c.in_ok-own_reforms.ensures.serve a same vars in
    c.beginning_is_good.ensures a c.in_ok-bounds.bounds c.new-board.result prepared (c.new-board.ensures.problem ∙ sym same)
    c.new-board.ensures.board (c.in_ok-bounds.ensures.fits a serve)
