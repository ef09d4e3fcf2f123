use Rattle.search_tests.proofs.Asking.{askable_later}
use Rattle.search_tests.proofs.totals.ask.Goals as goal

pub returns : goal.returns
returns g c =
    let R = g.R.Recorder in
    let a = R.seen c.args.rec.now in
    let b = R.seen c.output.new.rec in
    askable_later a b c.args.sum.now c.output.new.self c.output.result c.requires c.output.ensures.recorded c.output.ensures.fits
