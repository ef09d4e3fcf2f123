use Rattle.std.proofs.Common.{◌≡◌, ◌++◌}
use Rattle.search_base.proofs.BoundRows.{AreNew}
use Rattle.search_base.proofs.bounds.Bounds.new.Given as goal

abbrev pub invariant-loop-reform : goal.invariant-loop-reform
invariant-loop-reform l = record {
  whole : l.yielded ++ l.reform-iterator.rest.items ≡ l.fn.reforms.items;
  new : AreNew l.yielded l.bounds.items;
}
