-- Only the number of lines may stand against the line; the proof has ended after it, and it logs nothing.
use Rattle.certified_front.proofs.EndLines.{end_logs_none, end_search, ended_after, may_end_by, no_search}
use Rattle.certified_front.proofs.searching.end_by.Goals as goal

pub add_line-requires-clause-legal : goal.add_line-requires-clause-legal
add_line-requires-clause-legal g c =
    let R = g.O.Recorder in
    may_end_by (R.seen c.args.oracle.now) c.args.line.now c.requires.ready c.requires.line

pub returns-clause-ending : goal.returns-clause-ending
returns-clause-ending g c =
    let R = g.O.Recorder in
    let ready = c.requires.ready in
    let call = c.in_ok-add_line.ensures in
    ended_after (R.seen c.args.oracle.now) (R.seen c.add_line.new.self) c.args.line.now c.requires.line call.added
    ready.state c.state-state.result.now call.keeps.problem ready.reached c.state-state.ensures.replays

pub returns-clause-logged : goal.returns-clause-logged
returns-clause-logged g c =
    let R = g.O.Recorder in
    end_logs_none (R.seen c.args.oracle.now) (R.seen c.add_line.new.self) c.args.line.now c.requires.line
    c.in_ok-add_line.ensures.added

pub returns-clause-stays : goal.returns-clause-stays
returns-clause-stays g c =
    let R = g.O.Recorder in
    let call = c.in_ok-add_line.ensures in
    record {
      problem = call.keeps.problem;
      limit = call.keeps.limit;
      later = call.keeps.later;
      around = call.keeps.around;
      lines = end_search (R.seen c.args.oracle.now) (R.seen c.add_line.new.self).lines c.args.line.now c.requires.line
          call.added;
    }

pub returns-in_err-add_line-clause-stays : goal.returns-in_err-add_line-clause-stays
returns-in_err-add_line-clause-stays g c =
    let R = g.O.Recorder in
    let a = R.seen c.args.oracle.now in
    let call = c.in_err-add_line.ensures in
    record {
      problem = call.keeps.problem;
      limit = call.keeps.limit;
      later = call.keeps.later;
      around = call.keeps.around;
      lines = no_search a.problem a.lines (R.seen c.add_line.new.self).lines call.kept;
    }
