use Rattle.std.specs.Prelude.{min, vec_capacity}
use Rattle.std.proofs.Common.{◌≡◌, length, arith, ap, sym, ◌∙◌, subst}
use Rattle.cdcl_state.specs.Heap.{HeapValue, IsAdded, IsOrdered, key, swapped, most_vars}
use Rattle.cdcl_state.proofs.HeapChanges.{wait_ordered, wait_added}
use Rattle.cdcl_state.proofs.HeapPlaces.{place_of}
use Rattle.cdcl_state.proofs.heap.VariableHeap.wait.Goals as goal

pub sift_up-requires-clause-ordered : goal.sift_up-requires-clause-ordered
sift_up-requires-clause-ordered c =
    let i = c.self.inside in
    let j = c.self-then-place-end.inside in
    let h : HeapValue = record { activities = i.activities.items; vars = i.vars.items; count = i.count; room = min most_vars (min (vec_capacity i.activities) (min (vec_capacity i.vars) (vec_capacity i.places))) } in
    let v : HeapValue = record { activities = j.activities.items; vars = j.vars.items; count = j.count; room = min most_vars (min (vec_capacity j.activities) (min (vec_capacity j.vars) (vec_capacity j.places))) } in
    let place = c.index.result.now in
    let is : v ≡ swapped h place i.count = c.self-then-place-end.view_is ∙ c.swap.ensures ∙ ap (λ (x : HeapValue). swapped x place i.count) (sym c.self.view_is) in
    let size = ap (λ (x : HeapValue). length x.activities) c.self.view_is in
    let at = place_of (length i.activities.items) i.vars.items i.places.items i.count c.args.var place c.self.invariant c.requires.positive (omega (arith, c.requires.within, size)) c.index.ensures in
    wait_ordered h v place is c.if-place-end.true (omega (arith, at.1, c.self.invariant.room)) (subst (λ (x : HeapValue). IsOrdered (key x) x.count) (sym c.self.view_is) c.requires.ordered)

pub returns-then-place-end-clause-added : goal.returns-then-place-end-clause-added
returns-then-place-end-clause-added c =
    let i = c.self.inside in
    let j = c.self-then-place-end.inside in
    let h : HeapValue = record { activities = i.activities.items; vars = i.vars.items; count = i.count; room = min most_vars (min (vec_capacity i.activities) (min (vec_capacity i.vars) (vec_capacity i.places))) } in
    let v : HeapValue = record { activities = j.activities.items; vars = j.vars.items; count = j.count; room = min most_vars (min (vec_capacity j.activities) (min (vec_capacity j.vars) (vec_capacity j.places))) } in
    let place = c.index.result.now in
    let is : v ≡ swapped h place i.count = c.self-then-place-end.view_is ∙ c.swap.ensures ∙ ap (λ (x : HeapValue). swapped x place i.count) (sym c.self.view_is) in
    let size = ap (λ (x : HeapValue). length x.activities) c.self.view_is in
    let at = place_of (length i.activities.items) i.vars.items i.places.items i.count c.args.var place c.self.invariant c.requires.positive (omega (arith, c.requires.within, size)) c.index.ensures in
    subst (λ (x : HeapValue). IsAdded x c.sift_up.new.self c.args.var) c.self.view_is
    (wait_added h v c.sift_up.new.self place c.args.var is c.if-place-end.true (omega (arith, at.1, c.self.invariant.room)) at.2 c.sift_up.ensures.same)
