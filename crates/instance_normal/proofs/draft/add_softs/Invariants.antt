use Rattle.std.proofs.Common.{◌≡◌, ◌+◌, take}
use Rattle.instance_normal.specs.NormalForm.{soft_terms, soft_offset}
use Rattle.instance_normal.specs.Fitting.{AddsRows}
use Rattle.instance_normal.proofs.draft.add_softs.Given as goal

abbrev pub invariant-loop-soft : goal.invariant-loop-soft
invariant-loop-soft l = record {
  rows : AddsRows l.initial.draft l.draft (take l.soft-index l.softs);
  terms : l.costs.terms ≡ soft_terms (l.initial.draft.vars + 1) (take l.soft-index l.softs);
  offset : l.costs.offset ≡ soft_offset (take l.soft-index l.softs);
}
