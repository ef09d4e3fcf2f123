-- A good state is good but for no models; after the end, or after the models were settled, it is good again.
use Rattle.std.proofs.Common.{Bool, List, sym, subst}
use Rattle.search_base.specs.Pending.{IsGoodBut}
use Rattle.search_base.proofs.Turning.{goes_again, goes_twice}
use Rattle.relaxations.specs.Ending.{IsKeptEnd}
use Rattle.relaxations.proofs.opening.linear_front.Goals as goal

pub returns-then-not-may_tell-clause-goes_on : goal.returns-then-not-may_tell-clause-goes_on
returns-then-not-may_tell-clause-goes_on g c = let R = g.O.Recorder in goes_again (R.seen c.args.oracle.now)

pub returns-in_err-root-clause-goes_on : goal.returns-in_err-root-clause-goes_on
returns-in_err-root-clause-goes_on g c = let R = g.O.Recorder in goes_again (R.seen c.args.oracle.now)

pub returns-in_err-defined-clause-goes_on : goal.returns-in_err-defined-clause-goes_on
returns-in_err-defined-clause-goes_on g c = let R = g.O.Recorder in goes_again (R.seen c.args.oracle.now)

pub find_end-requires : goal.find_end-requires
find_end-requires g c =
    let R = g.O.Recorder in
    let a = R.seen c.args.oracle.now in
    let law = c.good_but_for_none.ensures in
    record {
      good = subst (λ (ms : List (List Bool)). IsGoodBut a c.args.bounds.now c.args.board.now ms)
          (sym c.new-pending.ensures) (law.good a c.args.bounds.now c.args.board.now c.requires.good);
    }

pub returns-in-Some-clause-good : goal.returns-in-Some-clause-good
returns-in-Some-clause-good g c order =
    let R = g.O.Recorder in
    let b = R.seen c.find_end.new.oracle in
    let kept : IsKeptEnd b c.in-Some.id = rw c.in-Some.is at c.in_ok-id.ensures.ended in
    c.end_is_good.ensures b c.args.bounds.now c.find_end.new.board c.find_end.new.pending c.in-Some.id
    c.in_ok-id.ensures.good kept

pub returns-in_err-settle-clause-goes_on : goal.returns-in_err-settle-clause-goes_on
returns-in_err-settle-clause-goes_on g c =
    let R = g.O.Recorder in
    goes_twice (R.seen c.args.oracle.now) (R.seen c.find_end.new.oracle) (R.seen c.settle.new.rec)
    c.in_ok-id.ensures.goes_on c.in_err-settle.ensures.goes_on

pub returns-clause-goes_on : goal.returns-clause-goes_on
returns-clause-goes_on g c =
    let R = g.O.Recorder in
    goes_twice (R.seen c.args.oracle.now) (R.seen c.find_end.new.oracle) (R.seen c.settle.new.rec)
    c.in_ok-id.ensures.goes_on c.in_ok-settle.ensures.goes_on
