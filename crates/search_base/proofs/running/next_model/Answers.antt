-- Turns without a model log nothing, so what the last one finds is new since the first.
use Rattle.std.proofs.Common.{refl}
use Rattle.search_base.proofs.Turning.{no_turn, turns_more, goes_twice, finds_after, none_twice}
use Rattle.search_base.proofs.running.next_model.Goals as goal

pub loop-id-init : goal.loop-id-init
loop-id-init g c =
    let R = g.O.Recorder in
    let a = R.seen c.args.oracle.now in
    record {
      turns = no_turn a c.args.bounds.now c.args.board.now c.requires.good;
      none = refl;
      serves = c.requires.serves;
    }

pub returns-in_err-turn-clause-goes_on : goal.returns-in_err-turn-clause-goes_on
returns-in_err-turn-clause-goes_on g c =
    let R = g.O.Recorder in
    let a = R.seen c.args.oracle.now in
    let b = R.seen c.loop-id.oracle in
    let d = R.seen c.turn.new.oracle in
    goes_twice a b d c.loop-id.invariant.turns.on c.in_err-turn.ensures.goes_on

pub returns-in-Found-clause-goes_on : goal.returns-in-Found-clause-goes_on
returns-in-Found-clause-goes_on g c =
    let R = g.O.Recorder in
    let a = R.seen c.args.oracle.now in
    let b = R.seen c.loop-id.oracle in
    let d = R.seen c.turn.new.oracle in
    goes_twice a b d c.loop-id.invariant.turns.on c.in_ok-turn.ensures.goes_on

pub returns-in-Finished-clause-goes_on : goal.returns-in-Finished-clause-goes_on
returns-in-Finished-clause-goes_on g c =
    let R = g.O.Recorder in
    let a = R.seen c.args.oracle.now in
    let b = R.seen c.loop-id.oracle in
    let d = R.seen c.turn.new.oracle in
    goes_twice a b d c.loop-id.invariant.turns.on c.in_ok-turn.ensures.goes_on

pub returns-in-Found-clause-found : goal.returns-in-Found-clause-found
returns-in-Found-clause-found g c =
    let R = g.O.Recorder in
    let a = R.seen c.args.oracle.now in
    let b = R.seen c.loop-id.oracle in
    let d = R.seen c.turn.new.oracle in
    finds_after a b d c.loop-id.invariant.turns.on.problem c.loop-id.invariant.none
    (rw c.in-Found.is at c.in_ok-turn.ensures.turn)

pub loop-id-preserved : goal.loop-id-preserved
loop-id-preserved g c =
    let R = g.O.Recorder in
    let a = R.seen c.args.oracle.now in
    let b = R.seen c.loop-id.oracle in
    let d = R.seen c.turn.new.oracle in
    let was = c.loop-id.invariant in
    let call = c.in_ok-turn.ensures in
    let moved = rw c.in-Moved.is at call.turn in
    record {
      turns = turns_more a b d c.loop-id.bounds c.turn.new.bounds c.args.board.now c.loop-id.board c.turn.new.board
          was.turns call.goes_on (call.good tt) call.board;
      none = none_twice a b d was.turns.on.problem was.none moved.0;
      serves = call.serves tt;
    }
