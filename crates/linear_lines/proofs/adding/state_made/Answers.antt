use Rattle.linear_lines.proofs.adding.state_made.Goals as goal

pub record-requires-clause-legal : goal.record-requires-clause-legal
record-requires-clause-legal g c =
    let a = let R = g.R.Recorder in R.seen c.args.rec.now in
    let s = c.state.result.now in
    let reached = c.state.ensures.replays in
    (c.pol_may_be_added.ensures a s c.args.tokens c.args.made.now c.requires.ready reached (c.requires.makes s reached)).legal

pub returns-clause-line : goal.returns-clause-line
returns-clause-line g c =
    let R = g.R.Recorder in
    let a = R.seen c.args.rec.now in
    let b = R.seen c.record.new.rec in
    let s = c.state.result.now in
    let reached = c.state.ensures.replays in
    let may = c.pol_may_be_added.ensures a s c.args.tokens c.args.made.now c.requires.ready reached (c.requires.makes s reached) in
    let call = c.in_ok-id.ensures in
    record {
      lines = call.added;
      made = c.args.made.now;
      tokens_of = c.requires.makes;
      own = λ t again. may.own b t c.in_ok-id.id call.recorded.continues.problem call.added again call.id;
    }
