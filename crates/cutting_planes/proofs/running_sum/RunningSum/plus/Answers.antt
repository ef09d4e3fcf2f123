use Rattle.std.proofs.Common.{◌≡◌, ◌∙◌, ◌+◌, ◌-◌, ◌*◌, ap, take_at, arith}
use Rattle.pb_lin.specs.Constraint.{total}
use Rattle.cutting_planes.proofs.SlotTerms.{plus_small, plus_counted, plus_sum}
use Rattle.cutting_planes.proofs.running_sum.RunningSum.plus.Goals as goal

pub add_multiple-requires-clause-small : goal.add_multiple-requires-clause-small
add_multiple-requires-clause-small c =
    let small = plus_small c.self.inside.slots.items c.self.inside.total c.self.inside.degree c.args.factor c.args.self c.args.c.now c.self.invariant c.self.view_is c.requires in
    let counted : total c.self.inside.slots.items ≡ c.self.inside.total = c.self.invariant.counted in
    let same : total c.deref_mut.result.now ≡ total c.self.inside.slots.items = ap total c.deref_mut.ensures.value in
    omega arith

pub overflow_add-result : goal.overflow_add-result
overflow_add-result c =
    let small = plus_small c.self.inside.slots.items c.self.inside.total c.self.inside.degree c.args.factor c.args.self c.args.c.now c.self.invariant c.self.view_is c.requires in
    let added = c.in_ok-added.ensures.total in
    omega arith

pub overflow_mul-result : goal.overflow_mul-result
overflow_mul-result c =
    let small = plus_small c.self.inside.slots.items c.self.inside.total c.self.inside.degree c.args.factor c.args.self c.args.c.now c.self.invariant c.self.view_is c.requires in
    let counted : total c.self.inside.slots.items ≡ c.self.inside.total = c.self.invariant.counted in
    let same : total c.deref_mut.result.now ≡ total c.self.inside.slots.items = ap total c.deref_mut.ensures.value in
    let cancelled = c.in_ok-added.ensures.added.coefficients in
    omega arith

pub invariant_of-result : goal.invariant_of-result
invariant_of-result c =
    plus_counted c.self.inside.slots.items c.deref_mut.result.now c.add_multiple.new.slots _ c.self.inside.total c.self.inside.degree c.args.factor c.in_ok-added.added c.in_ok-added.cancelled c.saturating_sub-degree.result c.args.self c.args.c.now
    c.self.invariant c.self.view_is c.deref_mut.ensures.value (take_at c.add_multiple.new.slots _ c.self.inside.slots.len (omega (arith, c.add_multiple.auto.slots, c.deref_mut.ensures.len))) c.in_ok-added.ensures.added c.in_ok-added.ensures.total c.requires
    (c.saturating_sub-degree.ensures ∙ ap (λ d. (c.self.inside.degree + d * c.args.factor) - c.in_ok-added.cancelled) c.degree.ensures.value)

pub returns : goal.returns
returns c =
    plus_sum c.self.inside.slots.items c.deref_mut.result.now c.add_multiple.new.slots _ _ c.self.inside.degree c.args.factor c.in_ok-added.cancelled c.saturating_sub-degree.result c.args.self c.args.c.now
    (invariant_of-result c) c.self.view_is c.deref_mut.ensures.value (take_at c.add_multiple.new.slots _ c.self.inside.slots.len (omega (arith, c.add_multiple.auto.slots, c.deref_mut.ensures.len))) c.in_ok-added.ensures.added
    (c.saturating_sub-degree.ensures ∙ ap (λ d. (c.self.inside.degree + d * c.args.factor) - c.in_ok-added.cancelled) c.degree.ensures.value)
