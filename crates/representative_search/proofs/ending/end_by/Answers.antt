-- Only the number of lines may stand against the line; the proof has ended after it, and it logs nothing.
use Rattle.representative_search.specs.Seeking.{HasEnded}
use Rattle.representative_search.proofs.Refutations.{ended_after, may_end_by}
use Rattle.representative_search.proofs.Searches.{found_next}
use Rattle.representative_search.proofs.ending.end_by.Goals as goal

pub add_line-requires-clause-legal : goal.add_line-requires-clause-legal
add_line-requires-clause-legal g c =
    let R = g.R.Recorder in
    may_end_by (R.seen c.args.rec.now) c.args.line.now c.requires.open c.requires.line

pub returns : goal.returns
returns g c =
    let R = g.R.Recorder in
    let a = R.seen c.args.rec.now in
    let b = R.seen c.add_line.new.self in
    let call = c.in_ok-add_line.ensures in
    found_next (λ lines _. HasEnded a.problem lines) a b _ call.keeps call.whole
    (ended_after a b c.args.line.now c.state-before.result.now c.state-after.result.now c.requires.open c.requires.line call.added call.keeps.problem c.state-before.ensures.replays c.state-after.ensures.replays)
