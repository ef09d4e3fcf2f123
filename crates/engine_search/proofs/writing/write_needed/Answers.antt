use Rattle.std.proofs.Common.{refl, ◌∙◌}
use Rattle.recording.proofs.LaterStates.{adds_again, adds_twice}
use Rattle.oracle.specs.Solving.{IsDerived}
use Rattle.engine_search.proofs.writing.write_needed.Goals as goal

pub returns-in_err-in_memory-clause-adds : goal.returns-in_err-in_memory-clause-adds
returns-in_err-in_memory-clause-adds g c = adds_again IsDerived (g.R.Recorder.seen c.args.rec.now)

pub loop-record-init : goal.loop-record-init
loop-record-init g c = record {
  ready = c.requires.ready;
  adds = adds_again IsDerived (g.R.Recorder.seen c.args.rec.now);
  judge = refl;
}

pub returns-in_err-write-clause-adds : goal.returns-in_err-write-clause-adds
returns-in_err-write-clause-adds g c =
    let R = g.R.Recorder in
    adds_twice IsDerived (R.seen c.args.rec.now) (R.seen c.loop-record.rec) (R.seen c.write.new.rec) c.loop-record.invariant.adds
    c.in_err-write.ensures.adds

pub returns-then-not-branch-clause-adds : goal.returns-then-not-branch-clause-adds
returns-then-not-branch-clause-adds g c =
    let R = g.R.Recorder in
    adds_twice IsDerived (R.seen c.args.rec.now) (R.seen c.loop-record.rec) (R.seen c.write.new.rec) c.loop-record.invariant.adds
    c.in_ok-write.ensures.adds

pub loop-record-preserved : goal.loop-record-preserved
loop-record-preserved g c =
    let R = g.R.Recorder in
    let so = c.loop-record.invariant in
    let was = c.in_ok-write.ensures in
    record {
      ready = was.ready;
      adds = adds_twice IsDerived (R.seen c.args.rec.now) (R.seen c.loop-record.rec) (R.seen c.write.new.rec) so.adds was.adds;
      judge = was.judge ∙ so.judge;
    }
