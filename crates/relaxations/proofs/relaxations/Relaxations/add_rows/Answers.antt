-- Lines of totalizers keep a good state good.
use Rattle.relaxations.proofs.Calls.{bounds_go_on, seeks_ok, seeks_recording}
use Rattle.relaxations.proofs.relaxations.Relaxations.add_rows.Goals as goal

pub returns : goal.returns
returns g c =
    let R = g.O.Recorder in
    let a = R.seen c.args.oracle.now in
    let b = R.seen c.add_row_totalizers.new.rec in
    let asked = c.args.bounds.now in
    let added = c.in_ok-add_row_totalizers.ensures in
    record {
      seeks = seeks_ok a b asked asked tt
          (λ front good. c.adding_stays_good.ensures a b asked front good added.continues added.whole)
          (bounds_go_on c.turn_lines_join.ensures a b added.continues);
    }

pub returns-in_err-add_row_totalizers : goal.returns-in_err-add_row_totalizers
returns-in_err-add_row_totalizers g c =
    let R = g.O.Recorder in
    let a = R.seen c.args.oracle.now in
    let b = R.seen c.add_row_totalizers.new.rec in
    let asked = c.args.bounds.now in
    let added = c.in_err-add_row_totalizers.ensures in
    record {
      seeks = seeks_recording a b asked asked c.from_residual.result c.in_err-add_row_totalizers.field-0.0
          c.from_residual.ensures.1 added.fault (bounds_go_on c.turn_lines_join.ensures a b added.continues);
    }
