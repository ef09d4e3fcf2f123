use Rattle.std.proofs.Common.{length}
use Rattle.scut_base.proofs.Tracking.{IsClearing}
use Rattle.scut_base.proofs.partial.open_listed.Given as goal

abbrev pub invariant-loop-at : goal.invariant-loop-at
invariant-loop-at l = IsClearing l.values l.places l.count l.at (length l.initial.values)
