use Rattle.std.proofs.Common.{◌-◌, ◌<◌, ℕ, ap, subst, length, get_or, set, arith, sym}
use Rattle.cdcl_state.specs.Heap.{HeapValue, ArePlaces}
use Rattle.cdcl_state.proofs.HeapPlaces.{places_swapped, var_of}
use Rattle.cdcl_state.proofs.heap.VariableHeap.swap.Goals as goal

pub index_mut-requires-2 : goal.index_mut-requires-2
index_mut-requires-2 c =
    let i = c.self.inside in
    let size = ap (λ (h : HeapValue). length h.vars) c.self.view_is in
    let other = var_of (length i.activities.items) i.vars.items i.places.items i.count c.args.second c.index-other.result.now c.self.invariant (omega (arith, size, c.requires.second, c.self.invariant.room)) c.index-other.ensures in
    omega (arith, other.1, other.2, c.self.invariant.placed, i.places.ok.0)

pub invariant_of-self : goal.invariant_of-self
invariant_of-self c =
    let i = c.self.inside in
    let n = length i.activities.items in
    let size = ap (λ (h : HeapValue). length h.vars) c.self.view_is in
    let first : c.args.first < n = omega (arith, size, c.requires.first, c.self.invariant.room) in
    let second : c.args.second < n = omega (arith, size, c.requires.second, c.self.invariant.room) in
    let var = var_of n i.vars.items i.places.items i.count c.args.first c.index-var.result.now c.self.invariant first c.index-var.ensures in
    let other = var_of n i.vars.items i.places.items i.count c.args.second c.index-other.result.now c.self.invariant second c.index-other.ensures in
    let more = c.swap.new.self.items in
    subst (λ (v : ℕ). ArePlaces n more (set (set i.places.items (v - 1) c.args.second) (c.index-other.result.now - 1) c.args.first) i.count) (sym var.0)
    (subst (λ (w : ℕ). ArePlaces n more (set (set i.places.items (get_or i.vars.items c.args.first 0 - 1) c.args.second) (w - 1) c.args.first) i.count) (sym other.0)
    (places_swapped n i.vars.items i.places.items i.count c.args.first c.args.second more c.self.invariant first second c.swap.ensures.items))
