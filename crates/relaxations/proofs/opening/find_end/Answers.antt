-- The boxes, and the oracle's call after them.
use Rattle.std.proofs.Common.{Err, Ok, Result}
use Rattle.std.specs.Prelude.{OnOk}
use Rattle.search_base.proofs.Turning.{goes_twice}
use Rattle.search_base.specs.Pending.{IsGoodBut}
use Rattle.relaxations.specs.Ending.{StaysGoodBut}
use Rattle.relaxations.proofs.OpeningCalls.{fault_after}
use Rattle.relaxations.proofs.opening.find_end.Goals as goal

done : {T E : Type 0} (P Q : Type 0) (r : Result T E) → (P → Q) → OnOk r P → OnOk r Q
done P Q (Ok x) to is = to is
done P Q (Err e) to is = tt

pub end_line-requires : goal.end_line-requires
end_line-requires g c =
    record { good = (c.args.bounds.now, c.find_all.new.board, c.find_all.new.pending, c.in_ok-find_all.ensures.good) }

pub returns-clause-goes_on : goal.returns-clause-goes_on
returns-clause-goes_on g c =
    let R = g.O.Recorder in
    goes_twice (R.seen c.args.oracle.now) (R.seen c.find_all.new.rec) (R.seen c.end_line.new.oracle)
    c.in_ok-find_all.ensures.goes_on c.end_line.ensures.goes_on

pub returns-clause-fault : goal.returns-clause-fault
returns-clause-fault g c =
    let R = g.O.Recorder in
    fault_after (R.seen c.args.oracle.now) (R.seen c.find_all.new.rec) (R.seen c.end_line.new.oracle) c.end_line.result
    c.in_ok-find_all.ensures.goes_on c.end_line.ensures.fault

pub returns-clause-good : goal.returns-clause-good
returns-clause-good g c =
    let R = g.O.Recorder in
    let b = R.seen c.find_all.new.rec in
    let d = R.seen c.end_line.new.oracle in
    done (StaysGoodBut b d) (IsGoodBut d c.args.bounds.now c.find_all.new.board c.find_all.new.pending) c.end_line.result
    (λ (stays : StaysGoodBut b d). stays c.args.bounds.now c.find_all.new.board c.find_all.new.pending
    c.in_ok-find_all.ensures.good) c.end_line.ensures.stays
