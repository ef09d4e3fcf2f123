use Rattle.std.proofs.Common.{length, arith}
use Rattle.scut_base.proofs.Tracking.{cleared}
use Rattle.scut_base.proofs.partial.open_listed.Goals as goal

pub returns : goal.returns
returns c = cleared c.loop-at.values c.args.places.now c.args.count c.loop-at.at (length c.args.values.now) c.loop-at.invariant (omega arith)
