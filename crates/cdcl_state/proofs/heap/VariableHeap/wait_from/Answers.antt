use Rattle.std.proofs.Common.{◌≡◌, length, ap, arith, subst}
use Rattle.cdcl_state.specs.Heap.{HeapValue, IsWaitingFrom}
use Rattle.cdcl_state.proofs.HeapChanges.{waiting_more}
use Rattle.cdcl_state.proofs.heap.VariableHeap.wait_from.Goals as goal

pub loop-at-preserved : goal.loop-at-preserved
loop-at-preserved c = record {
  room = c.wait.ensures.room;
  ordered = c.wait.ensures.ordered;
  waits = waiting_more c.args.self.now c.loop-at.self c.wait.new.self c.args.known c.loop-at.at c.loop-at.auto.at c.loop-at.invariant.waits c.wait.ensures.added;
}

pub returns-clause-waits : goal.returns-clause-waits
returns-clause-waits c =
    let size = ap (λ (x : HeapValue). length x.activities) c.self.view_is in
    let end : c.loop-at.at ≡ length c.args.self.now.activities = omega (arith, size, c.requires.known, c.len-at-end.ensures, c.self.inside.activities.ok.0, c.loop-at.auto.at-end, c.loop-at-test.false) in
    subst (IsWaitingFrom c.args.self.now c.loop-at.self c.args.known) end c.loop-at.invariant.waits
