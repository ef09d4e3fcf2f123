-- A model of the rows is one of the problem, and a core of no assumptions is a line by which the proof ends.
use Rattle.representative_search.proofs.Refutations.{core_line}
use Rattle.representative_search.proofs.SearchStates.{model_found, searched_open}
use Rattle.representative_search.proofs.Searches.{found_now}
use Rattle.representative_search.specs.Seeking.{IsFound}
use Rattle.representative_search.proofs.seeking.take_answer.Goals as goal

pub end_proof-requires-clause-open : goal.end_proof-requires-clause-open
end_proof-requires-clause-open g c = searched_open (g.O.Recorder.seen c.args.oracle.now) c.requires.searched

pub end_proof-requires-clause-line : goal.end_proof-requires-clause-line
end_proof-requires-clause-line g c =
    let R = g.O.Recorder in
    let a = R.seen c.args.oracle.now in
    core_line a.problem a.lines c.in-Unsat.core.lits c.in-Unsat.core.id (rw c.in-Unsat.is at c.requires.answer)

pub returns-in-Sat : goal.returns-in-Sat
returns-in-Sat g c =
    let R = g.O.Recorder in
    let a = R.seen c.args.oracle.now in
    found_now (IsFound a.problem) a _ c.requires.searched.whole
    (model_found a.problem a.lines c.state-state.result.now c.in-Sat.model c.requires.searched.lines c.state-state.ensures.replays (rw c.in-Sat.is at c.requires.answer))
