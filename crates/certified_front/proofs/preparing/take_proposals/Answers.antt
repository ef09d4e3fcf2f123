-- What an adviser proposes, after prepared lines.
use Rattle.std.proofs.Common.{◌≡◌, rules, sym, ◌∙◌}
use Rattle.recording.specs.Advice.{IsAdvice}
use Rattle.recording.proofs.LaterStates.{adds_again}
use Rattle.certified_front.proofs.AdvisedLines.{advised_prepared, advised_stop, ready_for}
use Rattle.certified_front.proofs.preparing.take_proposals.Goals as goal

pub consult-requires : goal.consult-requires
consult-requires g c =
    let judge = rw c.in_ok-judge.ensures.ok at c.new.ensures in
    record {
      ready = ready_for (g.O.Recorder.seen c.args.oracle.now) c.requires.prepared;
      same = c.requires.problem ∙ sym judge;
      problem = judge;
    }

pub returns-clause-prepared : goal.returns-clause-prepared
returns-clause-prepared g c =
    let R = g.O.Recorder in
    let was = c.consult.ensures in
    advised_prepared (R.seen c.args.oracle.now) (R.seen c.consult.new.rec) c.consult.result
    c.advised_stays_prepared.ensures c.requires.prepared was.adds was.ready

pub returns-clause-stop : goal.returns-clause-stop
returns-clause-stop g c =
    let R = g.O.Recorder in
    advised_stop (R.seen c.args.oracle.now) (R.seen c.consult.new.rec) c.consult.result c.consult.ensures.fault

pub returns-in_err-judge-clause-adds : goal.returns-in_err-judge-clause-adds
returns-in_err-judge-clause-adds g c = adds_again IsAdvice (g.O.Recorder.seen c.args.oracle.now)
