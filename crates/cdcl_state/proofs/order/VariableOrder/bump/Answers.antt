use Rattle.std.proofs.Common.{◌*◌, ◌-◌, ◌<◌, ℕ, List, All, length, get_or, arith, ap, refl, sym, subst, length-set}
use Rattle.std.proofs.lemmas.List.Elements.{All-set, All-get_or}
use Rattle.cdcl_state.specs.Heap.{HeapValue, Waits}
use Rattle.cdcl_state.specs.Order.{OrderValue, limit}
use Rattle.cdcl_state.proofs.OrderWaiting.{below_twice, order_halved, same_wait}
use Rattle.cdcl_state.proofs.order.VariableOrder.bump.Goals as goal

pub invariant_of-self : goal.invariant_of-self
invariant_of-self c =
    let i = c.self.inside in
    let acts = i.heap.activities in
    let raised = c.raise.ensures.raised.activities in
    let size = ap (λ (o : OrderValue). length o.activities) c.self.view_is in
    let positive = c.requires.positive in
    let one : get_or acts (c.args.var - 1) 0 < limit = All-get_or (λ a. a < limit) acts (c.args.var - 1) 0 (omega (arith, c.requires.within, size)) c.self.invariant.below in
    let small : c.raise.result < 2 * limit = omega (arith, c.raise.ensures.sum, c.self.invariant.small) in
    order_halved c.raise.new.self c.halve.new.self i.phases.items i.step c.half_step-self-inside.result
    (omega (arith, c.self.invariant.phased, ap length raised, length-set acts (c.args.var - 1) c.raise.result))
    (subst (λ (xs : List ℕ). All (λ a. a < 2 * limit) xs) (sym raised) (All-set (λ a. a < 2 * limit) acts (c.args.var - 1) c.raise.result small (below_twice acts c.self.invariant.below)))
    (omega (arith, c.self.invariant.small)) c.raise.ensures.room c.halve.ensures.halved c.half_step-self-inside.ensures c.halve.ensures.ordered

pub returns-then-raise-ge-LIMIT-clause-waiting : goal.returns-then-raise-ge-LIMIT-clause-waiting
returns-then-raise-ge-LIMIT-clause-waiting c =
    let h = c.self.inside.heap in
    let k = c.halve.new.self in
    let same = sym c.halve.ensures.halved in
    same_wait h k c.args.self.now _ (sym (ap (λ (o : OrderValue). o.waiting) c.self.view_is), c.self.invariant.room) (refl, c.halve.ensures.room)
    (λ var w. subst (λ (x : HeapValue). Waits x var) same (c.raise.ensures.raised.kept var w))
    (λ var w. c.raise.ensures.raised.only var (subst (λ (x : HeapValue). Waits x var) c.halve.ensures.halved w))

pub returns-else-raise-ge-LIMIT-clause-waiting : goal.returns-else-raise-ge-LIMIT-clause-waiting
returns-else-raise-ge-LIMIT-clause-waiting c =
    same_wait c.self.inside.heap c.raise.new.self c.args.self.now _ (sym (ap (λ (o : OrderValue). o.waiting) c.self.view_is), c.self.invariant.room) (refl, c.raise.ensures.room) c.raise.ensures.raised.kept c.raise.ensures.raised.only
