use Rattle.std.proofs.Common.{◌≡◌, false, length, replicate, take, fold}
use Rattle.linear_search.specs.Models.{with_true}
use Rattle.linear_search.proofs.model.assigned.Given as goal

abbrev pub invariant-loop-lit : goal.invariant-loop-lit
invariant-loop-lit l = record {
  long : length l.a ≡ l.vars;
  assigned : l.a ≡ fold with_true (replicate l.vars false) (take l.lit-index l.lits);
}
