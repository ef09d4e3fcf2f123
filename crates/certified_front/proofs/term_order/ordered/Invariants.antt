use Rattle.std.proofs.Common.{◌≡◌, List, ◌++◌}
use Rattle.std.specs.List.{AllZip}
use Rattle.totalizer.specs.declared.reform.Reform.{Reform}
use Rattle.certified_front.specs.Orders.{IsReordered}
use Rattle.certified_front.proofs.term_order.ordered.Given as goal

abbrev pub invariant-loop-reform : goal.invariant-loop-reform
invariant-loop-reform l = (done : List Reform) × (l.fn.reforms.items ≡ done ++ l.reform-iterator.rest.items) × AllZip IsReordered done l.ordered.items
