-- Each model lowers the number of uncovered vectors.
use Rattle.search_base.proofs.Turning.{no_turn, turns_more, goes_twice, fewer_left}
use Rattle.search_base.proofs.running.run_turns.Goals as goal

pub loop-id-init : goal.loop-id-init
loop-id-init g c =
    let R = g.O.Recorder in
    let a = R.seen c.args.oracle.now in
    record { turns = no_turn a c.args.bounds.now c.args.board.now c.requires.good; serves = c.requires.serves }

pub returns-in_err-id-clause-goes_on : goal.returns-in_err-id-clause-goes_on
returns-in_err-id-clause-goes_on g c =
    let R = g.O.Recorder in
    let a = R.seen c.args.oracle.now in
    let b = R.seen c.loop-id.oracle in
    let d = R.seen c.next_model.new.oracle in
    goes_twice a b d c.loop-id.invariant.turns.on c.in_err-id.ensures.goes_on

pub returns-in-Some-clause-goes_on : goal.returns-in-Some-clause-goes_on
returns-in-Some-clause-goes_on g c =
    let R = g.O.Recorder in
    let a = R.seen c.args.oracle.now in
    let b = R.seen c.loop-id.oracle in
    let d = R.seen c.next_model.new.oracle in
    goes_twice a b d c.loop-id.invariant.turns.on c.in_ok-id.ensures.goes_on

pub loop-id-smaller : goal.loop-id-smaller
loop-id-smaller g c =
    let R = g.O.Recorder in
    let b = R.seen c.loop-id.oracle in
    let d = R.seen c.next_model.new.oracle in
    let call = c.in_ok-id.ensures in
    fewer_left b d call.goes_on.problem (rw c.in_default.is at call.found)

pub loop-id-preserved : goal.loop-id-preserved
loop-id-preserved g c =
    let R = g.O.Recorder in
    let a = R.seen c.args.oracle.now in
    let b = R.seen c.loop-id.oracle in
    let d = R.seen c.next_model.new.oracle in
    let was = c.loop-id.invariant in
    let call = c.in_ok-id.ensures in
    record {
      turns = turns_more a b d c.loop-id.bounds c.next_model.new.bounds c.args.board.now c.loop-id.board
          c.next_model.new.board was.turns call.goes_on (call.good tt) call.board;
      serves = call.serves tt;
    }
