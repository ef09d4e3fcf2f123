use Rattle.std.proofs.Common.{◌+◌, take}
use Rattle.std.specs.List.{AllZip, flat_map}
use Rattle.instance_normal.specs.NormalForm.{IsCostRowOf, cost_sources}
use Rattle.instance_normal.specs.Fitting.{AddsRows}
use Rattle.instance_normal.proofs.objective.add_objectives.Given as goal

abbrev pub invariant-loop-objective : goal.invariant-loop-objective
invariant-loop-objective l = record {
  rows : AddsRows l.initial.draft l.draft (flat_map (λ o. o.softs) (take l.objective-index l.objectives));
  costs : AllZip IsCostRowOf (cost_sources (l.initial.draft.vars + 1) (take l.objective-index l.objectives)) l.costs;
}
