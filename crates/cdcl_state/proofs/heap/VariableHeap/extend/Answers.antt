use Rattle.std.specs.Prelude.{min, vec_capacity}
use Rattle.std.proofs.Common.{◌≡◌, ℕ, ◌+◌, ◌<◌, ◌^◌, length, replicate, arith, ap, refl, sym, subst}
use Rattle.std.proofs.lemmas.List.{length-append, length-replicate}
use Rattle.cdcl_state.specs.Heap.{ArePlaces, HeapValue, IsExtended, most_vars}
use Rattle.cdcl_state.proofs.HeapChanges.{extended}
use Rattle.cdcl_state.proofs.HeapPlaces.{places_longer}
use Rattle.cdcl_state.proofs.heap.VariableHeap.extend.Goals as goal

pub returns : goal.returns
returns c =
    let i = c.self.inside in
    let more = c.args.more in
    let acts = c.push_copies.new.list in
    let vars = c.count_on.new.list in
    let h : HeapValue = record { activities = i.activities.items; vars = i.vars.items; count = i.count; room = min most_vars (min (vec_capacity i.activities) (min (vec_capacity i.vars) (vec_capacity i.places))) } in
    let new : HeapValue = record { activities = acts.items; vars = vars.items; count = i.count; room = min most_vars (min (vec_capacity acts) (min (vec_capacity vars) (vec_capacity c.count_on-2.new.list))) } in
    subst (λ (x : HeapValue). IsExtended x new more) c.self.view_is
    (extended h new i.places.items more c.self.invariant c.push_copies.ensures c.count_on.ensures refl)

pub invariant_of-self : goal.invariant_of-self
invariant_of-self c =
    let i = c.self.inside in
    let more = c.args.more in
    let long : length c.push_copies.new.list.items ≡ length i.activities.items + more
    = omega (arith, ap length c.push_copies.ensures, length-append i.activities.items (replicate more 0), length-replicate {A = ℕ} more 0) in
    let room = ap (λ (h : HeapValue). h.room) c.self.view_is in
    let size = ap (λ (h : HeapValue). length h.activities) c.self.view_is in
    let few : length i.activities.items + more < 2 ^ 32 = omega (arith, room, size, c.requires, c.self.invariant.small) in
    subst (λ (n : ℕ). ArePlaces n c.count_on.new.list.items c.count_on-2.new.list.items i.count) (sym long)
    (places_longer (length i.activities.items) i.vars.items c.count_on.new.list.items i.places.items c.count_on-2.new.list.items i.count more c.self.invariant few c.count_on.ensures c.count_on-2.ensures)

pub count_on-requires-clause-small : goal.count_on-requires-clause-small
count_on-requires-clause-small c =
    let i = c.self.inside in
    let room = ap (λ (h : HeapValue). h.room) c.self.view_is in
    let size = ap (λ (h : HeapValue). length h.activities) c.self.view_is in
    omega (arith, room, size, c.requires, c.self.invariant.small, c.self.invariant.room, i.vars.ok.0)
