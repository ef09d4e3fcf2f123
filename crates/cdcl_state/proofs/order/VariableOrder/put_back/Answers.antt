use Rattle.std.proofs.Common.{ℕ, ap, refl, sym, subst}
use Rattle.cdcl_state.specs.Heap.{IsAdded}
use Rattle.cdcl_state.specs.Order.{OrderValue}
use Rattle.cdcl_state.proofs.OrderWaiting.{waits_too}
use Rattle.cdcl_state.proofs.order.VariableOrder.put_back.Goals as goal

pub returns-clause-waiting : goal.returns-clause-waiting
returns-clause-waiting c =
    let h = c.self.inside.heap in
    waits_too h c.wait.new.self c.args.self.now _ c.args.lit.var (sym (ap (λ (x : OrderValue). x.waiting) c.self.view_is), c.self.invariant.room) (refl, c.wait.ensures.room)
    (subst (λ (v : ℕ). IsAdded h c.wait.new.self v) c.var-var.ensures.value c.wait.ensures.added)
