-- A closed tree leaves the line `0 >= 1`, and a model is tried on the rows.
use Rattle.representative_search.specs.Seeking.{IsRelaxed}
use Rattle.representative_search.proofs.Refutations.{core_line}
use Rattle.representative_search.proofs.SearchStates.{none_ready, relaxed_open, whole_found}
use Rattle.representative_search.proofs.Searches.{ended_so, found_after}
use Rattle.representative_search.proofs.relaxing.relax_over.Goals as goal

pub ask-requires : goal.ask-requires
ask-requires g c = record {
  ready = none_ready (g.R.Recorder.seen c.args.rec.now) c.state-state.result.now c.requires.begun c.requires.whole c.state-state.ensures.replays;
  problem = c.requires.problem;
}

pub end_proof-requires-clause-open : goal.end_proof-requires-clause-open
end_proof-requires-clause-open g c =
    let R = g.R.Recorder in
    let call = c.in_ok-core.ensures.recorded in
    relaxed_open (R.seen c.args.rec.now) (R.seen c.ask.new.rec) c.requires.begun call.continues call.whole

pub end_proof-requires-clause-line : goal.end_proof-requires-clause-line
end_proof-requires-clause-line g c =
    let R = g.R.Recorder in
    let b = R.seen c.ask.new.rec in
    core_line b.problem b.lines c.in-Closed.core.lits c.in-Closed.core.id (rw c.in-Closed.is at c.in_ok-core.ensures.reply)

pub returns-in-Closed : goal.returns-in-Closed
returns-in-Closed g c =
    let R = g.R.Recorder in
    ended_so c.args.problem.now (R.seen c.args.rec.now) (R.seen c.ask.new.rec) (R.seen c.end_proof.new.rec) c.requires.problem c.in_ok-core.ensures.recorded.continues
    c.end_proof.result _ c.in_ok-end_proof-in-Closed.was c.end_proof.ensures

pub returns-in-Some : goal.returns-in-Some
returns-in-Some g c =
    let R = g.R.Recorder in
    let p = c.args.problem.now in
    let call = c.in_ok-core.ensures.recorded in
    found_after (IsRelaxed p) (R.seen c.args.rec.now) (R.seen c.ask.new.rec) call.continues _ call.whole (whole_found p _ (rw c.in-Some.is at c.in_ok-model-in-Model.ensures.model))
