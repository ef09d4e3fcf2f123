-- Lines of cliques were added, and boxes were asked.
use Rattle.search_base.proofs.ModelLines.{totalizer_goes_on}
use Rattle.search_base.proofs.Turning.{goes_twice}
use Rattle.relaxations.proofs.OpeningCalls.{fault_after_lines}
use Rattle.relaxations.proofs.finding.find_all.Goals as goal

pub ask_boxes-requires : goal.ask_boxes-requires
ask_boxes-requires g c =
    let R = g.R.Recorder in
    let call = c.in_ok-prepare.ensures.recorded in
    let law = c.adding_stays_good_but.ensures in
    record {
      good = law.same (R.seen c.args.rec.now) (R.seen c.prepare.new.rec) c.args.bounds.now c.args.board.now c.args.pending.now
          c.requires.good call.continues call.whole;
    }

pub returns-in_err-prepare-clause-goes_on : goal.returns-in_err-prepare-clause-goes_on
returns-in_err-prepare-clause-goes_on g c =
    let R = g.R.Recorder in
    totalizer_goes_on (R.seen c.args.rec.now) (R.seen c.prepare.new.rec) c.in_err-prepare.ensures.recorded.continues

pub returns-clause-goes_on : goal.returns-clause-goes_on
returns-clause-goes_on g c =
    let R = g.R.Recorder in
    let a = R.seen c.args.rec.now in
    let b = R.seen c.prepare.new.rec in
    goes_twice a b (R.seen c.ask_boxes.new.rec) (totalizer_goes_on a b c.in_ok-prepare.ensures.recorded.continues)
    c.ask_boxes.ensures.goes_on

pub returns-clause-fault : goal.returns-clause-fault
returns-clause-fault g c =
    let R = g.R.Recorder in
    fault_after_lines (R.seen c.args.rec.now) (R.seen c.prepare.new.rec) (R.seen c.ask_boxes.new.rec) c.ask_boxes.result
    c.in_ok-prepare.ensures.recorded.continues c.ask_boxes.ensures.fault
