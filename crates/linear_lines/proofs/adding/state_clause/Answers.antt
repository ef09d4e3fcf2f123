use Rattle.linear_lines.proofs.adding.state_clause.Goals as goal

pub record-requires-clause-legal : goal.record-requires-clause-legal
record-requires-clause-legal g c =
    let R = g.R.Recorder in
    let a = R.seen c.args.rec.now in
    let s = c.state.result.now in
    let reached = c.state.ensures.replays in
    let may = c.pol_may_be_added.ensures a s c.args.tokens c.args.clause c.requires.ready reached (c.requires.makes s reached).0 in
    may.legal

pub returns-clause-line : goal.returns-clause-line
returns-clause-line g c =
    let R = g.R.Recorder in
    let a = R.seen c.args.rec.now in
    let b = R.seen c.record.new.rec in
    let s = c.state.result.now in
    let reached = c.state.ensures.replays in
    let makes = c.requires.makes s reached in
    let may = c.pol_may_be_added.ensures a s c.args.tokens c.args.clause c.requires.ready reached makes.0 in
    let call = c.in_ok-id.ensures in
    record {
      lines = call.added;
      makes = c.requires.makes;
      live = λ t again.
          let own = may.own b t c.in_ok-id.id call.recorded.continues.problem call.added again call.id in
          (own.0, makes.1, own.1);
    }
