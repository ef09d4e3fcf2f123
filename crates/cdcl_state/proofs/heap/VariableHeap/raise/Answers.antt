use Rattle.std.specs.Prelude.{min, vec_capacity}
use Rattle.std.proofs.Common.{◌-◌, ◌+◌, ◌≤◌, length, arith, ap, sym, ◌∙◌, subst}
use Rattle.std.proofs.lemmas.List.{get_or_default}
use Rattle.cdcl_state.specs.Heap.{HeapValue, IsOrdered, IsRaised, key, most_vars}
use Rattle.cdcl_state.proofs.HeapChanges.{raise_ordered, raise_outside, raise_whole}
use Rattle.cdcl_state.proofs.HeapPlaces.{place_of}
use Rattle.cdcl_state.proofs.heap.VariableHeap.raise.Goals as goal

pub sift_up-requires-clause-ordered : goal.sift_up-requires-clause-ordered
sift_up-requires-clause-ordered c =
    let i = c.self.inside in
    let h : HeapValue = record { activities = i.activities.items; vars = i.vars.items; count = i.count; room = min most_vars (min (vec_capacity i.activities) (min (vec_capacity i.vars) (vec_capacity i.places))) } in
    let size = ap (λ (x : HeapValue). length x.activities) c.self.view_is in
    let positive = c.requires.positive in
    let within : c.args.var ≤ length i.activities.items = omega (arith, c.requires.within, size) in
    let at = place_of (length i.activities.items) i.vars.items i.places.items i.count c.args.var c.index-2.result.now c.self.invariant positive within c.index-2.ensures in
    let own = c.index.ensures ∙ get_or_default i.activities.items (c.args.var - 1) c.index.result.now 0 (omega arith) in
    raise_ordered h i.places.items c.args.var (c.index.result.now + c.args.by) c.index-2.result.now c.self.invariant positive within at.0 (omega arith) (subst (λ (x : HeapValue). IsOrdered (key x) x.count) (sym c.self.view_is) c.requires.ordered)

pub returns-then-place-self-clause-raised : goal.returns-then-place-self-clause-raised
returns-then-place-self-clause-raised c =
    let i = c.self.inside in
    let h : HeapValue = record { activities = i.activities.items; vars = i.vars.items; count = i.count; room = min most_vars (min (vec_capacity i.activities) (min (vec_capacity i.vars) (vec_capacity i.places))) } in
    subst (λ (x : HeapValue). IsRaised x c.sift_up.new.self c.args.var (c.index.result.now + c.args.by)) c.self.view_is
    (raise_whole h c.sift_up.new.self c.args.var (c.index.result.now + c.args.by) c.sift_up.ensures.same)

pub returns-else-place-self-clause-ordered : goal.returns-else-place-self-clause-ordered
returns-else-place-self-clause-ordered c =
    let i = c.self.inside in
    let h : HeapValue = record { activities = i.activities.items; vars = i.vars.items; count = i.count; room = min most_vars (min (vec_capacity i.activities) (min (vec_capacity i.vars) (vec_capacity i.places))) } in
    let size = ap (λ (x : HeapValue). length x.activities) c.self.view_is in
    let at = place_of (length i.activities.items) i.vars.items i.places.items i.count c.args.var c.index-2.result.now c.self.invariant c.requires.positive (omega (arith, c.requires.within, size)) c.index-2.ensures in
    raise_outside h i.places.items c.args.var (c.index.result.now + c.args.by) c.index-2.result.now c.self.invariant at.0 c.if-place-self.false (subst (λ (x : HeapValue). IsOrdered (key x) x.count) (sym c.self.view_is) c.requires.ordered)
