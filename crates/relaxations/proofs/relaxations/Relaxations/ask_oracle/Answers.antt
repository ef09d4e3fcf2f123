-- The rows' lines come first, and then the oracle's.
use Rattle.relaxations.proofs.Calls.{seeks_else}
use Rattle.relaxations.proofs.relaxations.Relaxations.ask_oracle.Goals as goal

pub oracle_any-requires-clause-good : goal.oracle_any-requires-clause-good
oracle_any-requires-clause-good g c =
    let front = c.requires.good in
    (front.0, (c.in_ok-add_rows.ensures.seeks.good tt front.0 front.1).0)

pub returns-in-Any-clause-seeks : goal.returns-in-Any-clause-seeks
returns-in-Any-clause-seeks g c =
    let R = g.O.Recorder in
    let asked = c.args.bounds.now in
    seeks_else (R.seen c.args.oracle.now) (R.seen c.add_rows.new.oracle) (R.seen c.oracle_any.new.oracle) asked asked
    asked c.oracle_any.result c.in_ok-add_rows.ensures.seeks c.oracle_any.ensures.seeks

pub returns-in-Within-clause-seeks : goal.returns-in-Within-clause-seeks
returns-in-Within-clause-seeks g c =
    let R = g.O.Recorder in
    let asked = c.args.bounds.now in
    seeks_else (R.seen c.args.oracle.now) (R.seen c.add_rows.new.oracle) (R.seen c.oracle_below.new.oracle) asked asked
    c.oracle_below.new.bounds c.oracle_below.result c.in_ok-add_rows.ensures.seeks c.oracle_below.ensures.seeks
