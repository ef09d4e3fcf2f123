use Rattle.std.proofs.Common.{refl, ◌∙◌, sym, subst, arith}
use Rattle.pb_lin.specs.Problem.{IsProblem}
use Rattle.recording.proofs.Taking.{none_on, one_on, taking_starts}
use Rattle.recording.proofs.advice.take_advice.Goals as goal

pub loop-at-init : goal.loop-at-init
loop-at-init g c = let R = g.R.Recorder in record {
  taking = taking_starts (R.seen c.args.rec.now) c.args.lines.now c.requires.ready;
  judge = refl;
}

pub take_line-requires : goal.take_line-requires
take_line-requires g c =
    let so = c.loop-at.invariant in
    record {
      ready = so.taking.ready;
      same = so.taking.taken.adds.problem ∙ c.requires.same ∙ sym so.judge;
      problem = subst IsProblem (sym so.judge) c.requires.problem;
    }

pub returns-in_err-take_line-clause-some : goal.returns-in_err-take_line-clause-some
returns-in_err-take_line-clause-some g c =
    let R = g.R.Recorder in
    let was = c.in_err-take_line.ensures in (
      c.loop-at.at,
      none_on (R.seen c.args.rec.now) (R.seen c.loop-at.rec) (R.seen c.take_line.new.rec) c.args.lines.now c.loop-at.at
          c.loop-at.invariant.taking was.keeps was.kept,
    )

pub loop-at-preserved : goal.loop-at-preserved
loop-at-preserved g c =
    let R = g.R.Recorder in
    let d = c.index-lines-at.result in
    let was = c.in_ok-take_line.ensures in
    record {
      taking = one_on (R.seen c.args.rec.now) (R.seen c.loop-at.rec) (R.seen c.take_line.new.rec) c.args.lines.now
          c.loop-at.at d d (omega (arith, c.loop-at-test.true)) c.index-lines-at.is c.loop-at.invariant.taking was.keeps
          (rw c.if-not-branch.false at was.took);
      judge = was.judge ∙ c.loop-at.invariant.judge;
    }
