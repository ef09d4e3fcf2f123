use Rattle.std.proofs.Common.{◌≡◌, take, fold}
use Rattle.std.specs.FinMap.{remove}
use Rattle.command_elaborate.specs.Kept.{IsFlat}
use Rattle.command_elaborate.proofs.adding.drop_all.Given as goal

abbrev pub invariant-loop-id : goal.invariant-loop-id
invariant-loop-id g l = record {
  store : l.search.store ≡ fold remove l.fn.search.store (take l.id-index l.ids);
  vars : l.search.trail.vars ≡ l.fn.search.trail.vars;
  flat : IsFlat l.search.trail;
}
