-- No lines have earned no clauses.
use Rattle.representative_search.proofs.SearchStates.{none_earned}
use Rattle.representative_search.proofs.seeking.seek_by.Goals as goal

pub solve-requires-clause-earned : goal.solve-requires-clause-earned
solve-requires-clause-earned g c =
    let R = g.O.Recorder in
    let a = R.seen c.args.oracle.now in
    none_earned a.problem a.lines c.state-state.result.now c.requires.begun c.state-state.ensures.replays
