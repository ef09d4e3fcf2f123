-- Bounds of reforms that serve fit.
use Rattle.certified_front.proofs.Boards.{weights_of}
use Rattle.certified_front.proofs.BoostedFronts.{no_front}
use Rattle.certified_front.proofs.searching.front_over.Goals as goal

pub new-requires : goal.new-requires
new-requires g c = weights_of (g.O.Recorder.seen c.args.oracle.now) c.args.reforms.items c.requires.prepared c.requires.reforms

pub front_with-requires-clause-fits : goal.front_with-requires-clause-fits
front_with-requires-clause-fits g c =
    let R = g.O.Recorder in
    let fit = rw c.in_ok-bounds.ensures.ok at c.new.ensures.fits in
    fit (R.seen c.args.oracle.now) c.requires.reforms

pub returns-in_err-bounds : goal.returns-in_err-bounds
returns-in_err-bounds g c =
    no_front c.args.inst.now c.args.problem.now (g.O.Recorder.seen c.args.oracle.now) c.in_err-bounds.field-0.0
    c.from_residual.result c.in_err-bounds.ensures.fault c.from_residual.ensures.1
