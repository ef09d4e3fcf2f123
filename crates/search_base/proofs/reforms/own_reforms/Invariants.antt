use Rattle.std.proofs.Common.{take}
use Rattle.std.specs.List.{AllZip}
use Rattle.totalizer.specs.Reforming.{IsOwnReform}
use Rattle.search_base.proofs.reforms.own_reforms.Given as goal

abbrev pub invariant-loop-row : goal.invariant-loop-row
invariant-loop-row l = AllZip IsOwnReform (take l.row-index l.problem.costs) l.reforms.items
