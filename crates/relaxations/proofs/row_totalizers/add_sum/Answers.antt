use Rattle.std.proofs.Common.{ℕ, ◌<◌, ◌^◌, List, Ok, ap, sym, subst, ◌∙◌}
use Rattle.scut_base.specs.Literal.{Literal}
use Rattle.pb_lin.specs.Constraint.{total}
use Rattle.sum_outputs.proofs.LaterStates.{continues_again, ready_later, recorded_after, recorded_ok}
use Rattle.linear_lines.proofs.Answering.{memory_handed}
use Rattle.relaxations.proofs.RowTerms.{are_weights, found_terms, have_variables}
use Rattle.relaxations.proofs.row_totalizers.add_sum.Goals as goal

pub returns-in_err-terms : goal.returns-in_err-terms
returns-in_err-terms g c =
    let a = let R = g.R.Recorder in R.seen c.args.rec.now in
    memory_handed a a c.in_err-terms.field-0.0 c.from_residual.result (continues_again a)
    c.in_err-terms.ensures.fault c.from_residual.ensures.1

pub returns-in_default : goal.returns-in_default
returns-in_default g c =
    let a = let R = g.R.Recorder in R.seen c.args.rec.now in
    recorded_ok a a tt (continues_again a) c.requires.ready.whole

pub returns-in_default-taken_room : goal.returns-in_default-taken_room
returns-in_default-taken_room g c =
    let a = let R = g.R.Recorder in R.seen c.args.rec.now in
    recorded_ok a a tt (continues_again a) c.requires.ready.whole

pub output_of-requires-clause-weights : goal.output_of-requires-clause-weights
output_of-requires-clause-weights g c =
    are_weights c.args.exceeded.now.terms c.as_slice-2.result.now
    (found_terms c.args.exceeded.now.terms c.as_slice-2.result.now c.in-Some.terms c.weights_of.result c.as_slice-2.ensures
    (c.in_ok-terms.ensures.ok ∙ ap (λ o. Ok o) c.in-Some.is) c.weights_of.ensures.terms)
    c.weights_of.ensures.merged
    (subst (λ (ts : List (Literal × ℕ)). total ts < 2 ^ 63) (c.as_slice.ensures ∙ sym c.as_slice-2.ensures) c.in-Some-taken_room.ensures)

pub output_of-requires-clause-variables : goal.output_of-requires-clause-variables
output_of-requires-clause-variables g c =
    let a = let R = g.R.Recorder in R.seen c.args.rec.now in
    have_variables a c.args.exceeded.now.terms c.as_slice-2.result.now
    (found_terms c.args.exceeded.now.terms c.as_slice-2.result.now c.in-Some.terms c.weights_of.result c.as_slice-2.ensures
    (c.in_ok-terms.ensures.ok ∙ ap (λ o. Ok o) c.in-Some.is) c.weights_of.ensures.terms)
    c.weights_of.ensures.merged c.requires.variables

pub deny-requires : goal.deny-requires
deny-requires g c =
    let R = g.R.Recorder in
    record { ready = ready_later (R.seen c.args.rec.now) (R.seen c.output_of.new.rec) c.requires.ready c.in_ok-lower_line.ensures.continues c.in_ok-lower_line.ensures.whole }

pub returns-in-At : goal.returns-in-At
returns-in-At g c =
    let R = g.R.Recorder in
    recorded_after (R.seen c.args.rec.now) (R.seen c.output_of.new.rec) (R.seen c.deny.new.rec) c.deny.result c.in_ok-lower_line.ensures.continues c.deny.ensures
