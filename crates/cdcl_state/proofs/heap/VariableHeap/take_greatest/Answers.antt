use Rattle.std.specs.Prelude.{min, vec_capacity}
use Rattle.std.proofs.Common.{◌≡◌, ◌-◌, ◌<◌, length, arith, ap, sym, ◌∙◌, subst, ℕ}
use Rattle.cdcl_state.specs.Heap.{HeapValue, IsOrdered, IsTaken, key, swapped, most_vars}
use Rattle.cdcl_state.proofs.HeapChanges.{take_ordered, take_taken}
use Rattle.cdcl_state.proofs.HeapPlaces.{var_of}
use Rattle.cdcl_state.proofs.heap.VariableHeap.take_greatest.Goals as goal

pub sift_down-requires-clause-ordered : goal.sift_down-requires-clause-ordered
sift_down-requires-clause-ordered c =
    let i = c.self.inside in
    let j = c.self-2.inside in
    let h : HeapValue = record { activities = i.activities.items; vars = i.vars.items; count = i.count; room = min most_vars (min (vec_capacity i.activities) (min (vec_capacity i.vars) (vec_capacity i.places))) } in
    let v : HeapValue = record { activities = j.activities.items; vars = j.vars.items; count = j.count; room = min most_vars (min (vec_capacity j.activities) (min (vec_capacity j.vars) (vec_capacity j.places))) } in
    let is : v ≡ swapped h 0 (i.count - 1) = c.self-2.view_is ∙ c.swap.ensures ∙ ap (λ (x : HeapValue). swapped x 0 (i.count - 1)) (sym c.self.view_is) in
    let some = c.if-self-eq0.false in
    take_ordered h v (i.count - 1) is (omega arith) (omega (arith, c.self.invariant.counted, c.self.invariant.room)) (subst (λ (x : HeapValue). IsOrdered (key x) x.count) (sym c.self.view_is) c.requires.ordered)

pub returns-clause-taken : goal.returns-clause-taken
returns-clause-taken c =
    let i = c.self.inside in
    let j = c.self-2.inside in
    let h : HeapValue = record { activities = i.activities.items; vars = i.vars.items; count = i.count; room = min most_vars (min (vec_capacity i.activities) (min (vec_capacity i.vars) (vec_capacity i.places))) } in
    let v : HeapValue = record { activities = j.activities.items; vars = j.vars.items; count = j.count; room = min most_vars (min (vec_capacity j.activities) (min (vec_capacity j.vars) (vec_capacity j.places))) } in
    let is : v ≡ swapped h 0 (i.count - 1) = c.self-2.view_is ∙ c.swap.ensures ∙ ap (λ (x : HeapValue). swapped x 0 (i.count - 1)) (sym c.self.view_is) in
    let some = c.if-self-eq0.false in
    let front : 0 < length i.activities.items = omega (arith, c.self.invariant.counted) in
    let own = var_of (length i.activities.items) i.vars.items i.places.items i.count 0 c.index-var.result.now c.self.invariant front c.index-var.ensures in
    subst (λ (n : ℕ). IsTaken c.args.self.now c.sift_down.new.self n) (sym c.from.ensures)
    (subst (λ (x : HeapValue). IsTaken x c.sift_down.new.self c.index-var.result.now) c.self.view_is
    (take_taken h v c.sift_down.new.self (i.count - 1) c.index-var.result.now is (omega arith) (omega (arith, c.self.invariant.counted, c.self.invariant.room)) (sym own.0) own.1 own.2
    (subst (λ (x : HeapValue). IsOrdered (key x) x.count) (sym c.self.view_is) c.requires.ordered) c.sift_down.ensures.same))
