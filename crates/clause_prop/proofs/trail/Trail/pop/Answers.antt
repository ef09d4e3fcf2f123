use Rattle.std.proofs.Common.{arith, ◌≡◌, ◌+◌, ◌-◌, ap, sym, subst, set, length, length-take, None}
use Rattle.clause_prop.specs.Steps.{TrailValue}
use Rattle.clause_prop.specs.Tables.{AreTables}
use Rattle.clause_prop.specs.Truths.{AreTruths}
use Rattle.clause_prop.specs.declared.step.Step.{Step}
use Rattle.clause_prop.proofs.Tables.{tables_popped}
use Rattle.clause_prop.proofs.TruthTable.{last_within, truths_popped}
use Rattle.clause_prop.proofs.trail.Trail.pop.Goals as goal

pub invariant_of-self : goal.invariant_of-self
invariant_of-self c =
    let i = c.self.inside in
    let some = c.requires in
    let steps = ap (λ (t : TrailValue). length t.steps) c.self.view_is in
    let count : i.count ≡ (i.count - 1) + 1 = omega (arith, some, steps, length-take i.count i.steps.items) in
    let before = subst (AreTables i.values.items i.places.items i.steps.items) count c.self.invariant.0 in
    let r : Step = c.index.result.now in
    let within = last_within i.values.items i.places.items i.steps.items (i.count - 1) r before in
    let same = ap (λ (s : Step). s.lit.var) c.index.ensures in
    let told : AreTruths (set i.values.items (r.lit.var - 1) None) c.set_truths.new.truths.items
    = subst (AreTruths (set i.values.items (r.lit.var - 1) None)) (sym c.set_truths.ensures)
    (truths_popped i.values.items i.truths.items r.lit c.self.invariant.1 (omega (arith, c.var.ensures.from_one, c.var.ensures.value)) (omega (arith, within, same))) in
    let there = subst (λ (s : Step). AreTruths (set i.values.items (s.lit.var - 1) None) c.set_truths.new.truths.items) c.index.ensures told in
    rw (c.var.ensures.value, c.index.ensures)
    (tables_popped i.values.items i.places.items i.steps.items (i.count - 1) c.index.result.now before, there)
