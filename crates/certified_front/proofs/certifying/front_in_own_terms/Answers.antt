-- The problem's own terms serve over what was prepared.
use Rattle.certified_front.proofs.BoostedFronts.{no_front}
use Rattle.certified_front.proofs.PreparedLines.{has_variables}
use Rattle.certified_front.proofs.certifying.front_in_own_terms.Goals as goal

pub front_over-requires-clause-reforms : goal.front_over-requires-clause-reforms
front_over-requires-clause-reforms g c =
    let R = g.O.Recorder in
    let a = R.seen c.args.oracle.now in
    let own = rw c.in_ok-own.ensures.ok at c.own_reforms.ensures.serve in
    let serve = rw c.in_ok-reforms.ensures.ok at c.ordered.ensures.serve in
    let same = c.requires.problem in
    serve a (own a same (has_variables a c.args.problem.now same c.vars-vars.ensures.problem c.state-state.ensures.formed))

pub returns-in_err-own : goal.returns-in_err-own
returns-in_err-own g c =
    no_front c.args.inst.now c.args.problem.now (g.O.Recorder.seen c.args.oracle.now) c.in_err-own.field-0.0
    c.from_residual.result c.in_err-own.ensures.fault c.from_residual.ensures.1

pub returns-in_err-reforms : goal.returns-in_err-reforms
returns-in_err-reforms g c =
    no_front c.args.inst.now c.args.problem.now (g.O.Recorder.seen c.args.oracle.now) c.in_err-reforms.field-0.0
    c.from_residual-in_err-reforms.result c.in_err-reforms.ensures.fault c.from_residual-in_err-reforms.ensures.1
