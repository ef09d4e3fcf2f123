use Rattle.std.proofs.Common.{refl, ◌∙◌, sym, subst}
use Rattle.pb_lin.specs.Problem.{IsProblem}
use Rattle.recording.specs.Advice.{IsAdvice}
use Rattle.recording.proofs.LaterStates.{adds_again, adds_twice}
use Rattle.recording.proofs.adviser.consult.Goals as goal

pub loop-init : goal.loop-init
loop-init g c = let R = g.R.Recorder in record {
  ready = c.requires.ready;
  adds = adds_again IsAdvice (R.seen c.args.rec.now);
  judge = refl;
}

pub take_round-requires : goal.take_round-requires
take_round-requires g c =
    let so = c.loop.invariant in
    record {
      ready = so.ready;
      same = so.adds.problem ∙ c.requires.same ∙ sym so.judge;
      problem = subst IsProblem (sym (so.judge ∙ c.requires.problem)) c.vars-vars.ensures.problem;
    }

pub loop-preserved : goal.loop-preserved
loop-preserved g c =
    let R = g.R.Recorder in
    let so = c.loop.invariant in
    let was = c.in_ok-count.ensures in
    record {
      ready = was.ready;
      adds = adds_twice IsAdvice (R.seen c.args.rec.now) (R.seen c.loop.rec) (R.seen c.take_round.new.rec) so.adds was.adds;
      judge = was.judge ∙ so.judge;
    }

pub returns-in_err-count-clause-adds : goal.returns-in_err-count-clause-adds
returns-in_err-count-clause-adds g c =
    let R = g.R.Recorder in
    adds_twice IsAdvice (R.seen c.args.rec.now) (R.seen c.loop.rec) (R.seen c.take_round.new.rec) c.loop.invariant.adds
    c.in_err-count.ensures.adds

pub returns-in-None-clause-adds : goal.returns-in-None-clause-adds
returns-in-None-clause-adds g c =
    let R = g.R.Recorder in
    adds_twice IsAdvice (R.seen c.args.rec.now) (R.seen c.loop.rec) (R.seen c.take_round.new.rec) c.loop.invariant.adds
    c.in_ok-count.ensures.adds
