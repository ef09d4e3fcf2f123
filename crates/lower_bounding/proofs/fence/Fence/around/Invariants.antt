-- The numbers of the rows so far.
use Rattle.std.proofs.Common.{◌≡◌, map, take}
use Rattle.lower_bounding.specs.Fences.{greatest_cost}
use Rattle.lower_bounding.proofs.fence.Fence.around.Given as goal

abbrev pub invariant-loop-row : goal.invariant-loop-row
invariant-loop-row l = record {
  fence : l.fence ≡ map (λ r. r.offset) (take l.row-index l.problem.costs);
  tops : l.tops ≡ map greatest_cost (take l.row-index l.problem.costs);
}
