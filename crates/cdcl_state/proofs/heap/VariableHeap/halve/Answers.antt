use Rattle.std.specs.Prelude.{min, vec_capacity}
use Rattle.std.proofs.Common.{◌≡◌, ◌/◌, List, ℕ, length, map, ap, arith, sym, ◌∙◌, subst}
use Rattle.std.specs.Vec.{with_items}
use Rattle.std.proofs.lemmas.List.{length-map, with_items_is}
use Rattle.cdcl_state.specs.Heap.{HeapValue, IsOrdered, key}
use Rattle.cdcl_state.proofs.HeapChanges.{halve_ordered}
use Rattle.cdcl_state.proofs.heap.VariableHeap.halve.Goals as goal

pub returns-clause-ordered : goal.returns-clause-ordered
returns-clause-ordered c =
    let i = c.self.inside in
    let halves = c.halve_all.new.numbers in
    let is : halves ≡ map (λ a. a / 2) i.activities.items = c.halve_all.ensures ∙ ap (λ (xs : List ℕ). map (λ a. a / 2) xs) c.deref_mut.ensures.value in
    let long = ap length is ∙ length-map i.activities.items (λ a. a / 2) in
    halve_ordered i.activities.items (with_items i.activities halves).items i.vars.items i.count (min (vec_capacity i.activities) (min (vec_capacity i.vars) (vec_capacity i.places))) (with_items_is i.activities halves (omega (arith, long, i.activities.ok.0)) ∙ is)
    (subst (λ (x : HeapValue). IsOrdered (key x) x.count) (sym c.self.view_is) c.requires.ordered)
