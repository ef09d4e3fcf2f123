use Rattle.std.proofs.Common.{length, ap, arith}
use Rattle.cdcl_state.specs.Heap.{HeapValue}
use Rattle.cdcl_state.proofs.HeapChanges.{grown_from}
use Rattle.cdcl_state.proofs.heap.VariableHeap.grow.Goals as goal

pub returns-clause-grown : goal.returns-clause-grown
returns-clause-grown c =
    let size = ap (λ (x : HeapValue). length x.activities) c.self.view_is in
    grown_from c.args.self.now c.extend.new.self c.wait_from.new.self c.args.vars c.len-known.result c.saturating_sub.result (omega (arith, size, c.len-known.ensures, c.self.inside.activities.ok.0)) c.saturating_sub.ensures c.extend.ensures c.wait_from.ensures.waits
