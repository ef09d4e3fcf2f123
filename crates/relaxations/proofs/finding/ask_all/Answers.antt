-- Step by step the state stays good but for the models that were taken.
use Rattle.search_base.proofs.Turning.{board_again, board_twice, goes_again, goes_twice}
use Rattle.relaxations.proofs.finding.ask_all.Goals as goal

pub loop-question-init : goal.loop-question-init
loop-question-init g c =
    let R = g.R.Recorder in
    record {
      good = c.requires.good;
      goes_on = goes_again (R.seen c.args.rec.now);
      board = board_again c.args.board.now;
    }

pub returns-in_err-ask_next-clause-goes_on : goal.returns-in_err-ask_next-clause-goes_on
returns-in_err-ask_next-clause-goes_on g c =
    let R = g.R.Recorder in
    goes_twice (R.seen c.args.rec.now) (R.seen c.loop-question.rec) (R.seen c.ask_next.new.rec)
    c.loop-question.invariant.goes_on c.in_err-ask_next.ensures.goes_on

pub returns-then-not-branch-clause-goes_on : goal.returns-then-not-branch-clause-goes_on
returns-then-not-branch-clause-goes_on g c =
    let R = g.R.Recorder in
    goes_twice (R.seen c.args.rec.now) (R.seen c.loop-question.rec) (R.seen c.ask_next.new.rec)
    c.loop-question.invariant.goes_on c.in_ok-ask_next.ensures.goes_on

pub loop-question-preserved : goal.loop-question-preserved
loop-question-preserved g c =
    let R = g.R.Recorder in
    let was = c.loop-question.invariant in
    let call = c.in_ok-ask_next.ensures in
    record {
      good = call.good;
      goes_on = goes_twice (R.seen c.args.rec.now) (R.seen c.loop-question.rec) (R.seen c.ask_next.new.rec) was.goes_on
          call.goes_on;
      board = board_twice c.args.board.now c.loop-question.board c.ask_next.new.board was.board call.board;
    }
