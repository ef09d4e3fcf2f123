-- What a definition leaves of a recorder.
use Rattle.std.proofs.Common.{refl}
use Rattle.sum_outputs.proofs.DefinedLines.{defined_legal, defined_after}
use Rattle.sum_outputs.proofs.definition.define_next.Goals as goal

pub record-requires-clause-legal : goal.record-requires-clause-legal
record-requires-clause-legal g c =
    let R = g.R.Recorder in
    let a = R.seen c.args.rec.now in
    defined_legal a c.state.result.now c.vars-vars.ensures.state c.state.ensures.replays c.args.constraint c.args.var c.args.sum (c.requires.next c.state.result.now c.state.ensures.replays) c.requires.ready

pub returns-clause-defined : goal.returns-clause-defined
returns-clause-defined g c =
    let R = g.R.Recorder in
    let a = R.seen c.args.rec.now in
    let b = R.seen c.record.new.rec in
    defined_after a c.state.result.now c.vars-vars.ensures.state c.state.ensures.replays c.args.constraint c.args.var c.args.sum (c.requires.next c.state.result.now c.state.ensures.replays)
    b _ c.in_ok-lower.ensures.recorded.continues.problem c.in_ok-lower.ensures.added c.new.ensures.var c.new.ensures.neg c.in_ok-lower.ensures.id refl
