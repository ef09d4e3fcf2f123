use Rattle.std.proofs.Common.{take}
use Rattle.relaxations.specs.Boxes.{Excludes}
use Rattle.relaxations.proofs.open_boxes.OpenBoxes.exclude.Given as goal

abbrev pub invariant-loop-limits : goal.invariant-loop-limits
invariant-loop-limits l = Excludes (take l.limits-index l.limits-items) l.remaining.items l.costs
