use Rattle.std.proofs.Common.{None, Some, true, false, get_or, arith, ap, sym, ◌∙◌}
use Rattle.clause_prop.proofs.TruthTable.{value_told}
use Rattle.clause_prop.proofs.trail.Trail.value.Goals as goal

pub returns-in-Open-clause-value : goal.returns-in-Open-clause-value
returns-in-Open-clause-value c =
    let i = c.self.inside in
    value_told i.values.items i.truths.items i.places.items i.steps.items i.count c.args.self.now c.args.lit c.index.result.now None c.self.invariant c.self.view_is (omega (arith, c.var-from_one.ensures.from_one, c.var-from_one.ensures.value)) c.requires
    (ap (λ k. get_or i.truths.items k c.index.result.now) (sym c.literal_code.ensures) ∙ sym c.index.ensures ∙ c.in-Open.is)

pub returns-in-True-clause-value : goal.returns-in-True-clause-value
returns-in-True-clause-value c =
    let i = c.self.inside in
    value_told i.values.items i.truths.items i.places.items i.steps.items i.count c.args.self.now c.args.lit c.index.result.now (Some true) c.self.invariant c.self.view_is (omega (arith, c.var-from_one.ensures.from_one, c.var-from_one.ensures.value)) c.requires
    (ap (λ k. get_or i.truths.items k c.index.result.now) (sym c.literal_code.ensures) ∙ sym c.index.ensures ∙ c.in-True.is)

pub returns-in-False-clause-value : goal.returns-in-False-clause-value
returns-in-False-clause-value c =
    let i = c.self.inside in
    value_told i.values.items i.truths.items i.places.items i.steps.items i.count c.args.self.now c.args.lit c.index.result.now (Some false) c.self.invariant c.self.view_is (omega (arith, c.var-from_one.ensures.from_one, c.var-from_one.ensures.value)) c.requires
    (ap (λ k. get_or i.truths.items k c.index.result.now) (sym c.literal_code.ensures) ∙ sym c.index.ensures ∙ c.in-False.is)
