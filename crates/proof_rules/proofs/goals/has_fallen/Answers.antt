use Rattle.std.proofs.Common.{ℕ, ◌≤◌, List, length, arith, ap, subst, sym, ◌∙◌, sum_by}
use Rattle.std.specs.List.{All}
use Rattle.std.proofs.lemmas.Int.{ints}
use Rattle.std.proofs.lemmas.List.{take_all}
use Rattle.std.proofs.lemmas.List.Sums.{sum_by_more}
use Rattle.pb_lin.specs.Constraint.{ConstraintValue, TermsUpTo, UpTo, value}
use Rattle.pb_lin.specs.CostRow.{CostRowValue}
use Rattle.pb_lin.specs.NormalForm.{sum_value}
use Rattle.pb_lin.specs.Substitution.{value_under}
use Rattle.pb_lin.proofs.Excess.{HasExcess-same}
use Rattle.pb_lin.proofs.Variables.{normal_form_upto}
use Rattle.proof_laws.specs.Substituted.{IsGoalOf, has_fallen}
use Rattle.proof_rules.specs.Verdict.{ImagesUpTo, LiteralsUpTo}
use Rattle.proof_rules.proofs.Falls.{both_if_ok, row_upto}
use Rattle.proof_rules.proofs.goals.has_fallen.Goals as goal

pub overflow_add-met : goal.overflow_add-met
overflow_add-met c =
    let few = c.vars-limits.ensures.problem.objectives in
    let same = ap (λ (rs : List CostRowValue). length rs) c.costs-rows.ensures in
    let short = c.loop-row-test.true in
    let old = c.loop-row.invariant.met in
    let new = c.in_ok-met.ensures.met in
    omega arith

pub loop-row-preserved : goal.loop-row-preserved
loop-row-preserved c =
    let rows = c.costs-rows.result.now in
    let i = c.loop-row.row-index in
    let row = c.row-item.result in
    let short = c.loop-row-test.true in
    record {
      value = λ a.
          let values = sum_by_more (λ (r : CostRowValue). value a r.terms) rows i row short in
          let value_here = ap (λ (r : CostRowValue). value a r.terms) c.row-item.is in
          let under = sum_by_more (λ (r : CostRowValue). value_under c.args.w.now a r.terms) rows i row short in
          let under_here = ap (λ (r : CostRowValue). value_under c.args.w.now a r.terms) c.row-item.is in
          let old = c.loop-row.invariant.value a in
          let new = c.in_ok-met.ensures.value a in
          omega (arith, ints);
      met = let old = c.loop-row.invariant.met in let new = c.in_ok-met.ensures.met in omega arith;
      small = let old = c.loop-row.invariant.small in let new = c.in_ok-met.ensures.small in omega arith;
      variables = λ n upto images.
          let all = subst (All (λ (r : CostRowValue). TermsUpTo c.args.problem.now.vars r.terms)) (sym c.costs-rows.ensures) c.vars-limits.ensures.problem.cost_variables in
          c.in_ok-met.ensures.variables n (row_upto rows i row c.args.problem.now.vars n all short c.row-item.is upto) images (c.loop-row.invariant.variables n upto images);
    }

pub returns-clause-goal : goal.returns-clause-goal
returns-clause-goal c =
    both_if_ok c.normal_form.result _ _ (λ (g : ConstraintValue). IsGoalOf g (has_fallen c.args.w.now c.args.problem.now)) c.normal_form.ensures.normal c.normal_form.ensures.form
    (λ g normal form. (
      normal,
      HasExcess-same g _ (has_fallen c.args.w.now c.args.problem.now).excess form (λ a.
          let whole = take_all c.loop-row.row-index c.costs-rows.result.now c.loop-row-test.false ∙ c.costs-rows.ensures in
          let values = ap (λ (rs : List CostRowValue). sum_by (λ r. value a r.terms) rs) whole in
          let unders = ap (λ (rs : List CostRowValue). sum_by (λ r. value_under c.args.w.now a r.terms) rs) whole in
          let fall = c.loop-row.invariant.value a in
          let low = c.loop-row.invariant.met in
          let end = c.loop-row.auto.row-index-end in
          let few = c.vars-limits.ensures.problem.objectives in
          let same = ap (λ (rs : List CostRowValue). length rs) c.costs-rows.ensures in
          let here = ap (sum_value a) c.deref.ensures.value in
          omega (arith, ints)),
    ))

pub returns-clause-variables : goal.returns-clause-variables
returns-clause-variables c =
    both_if_ok c.normal_form.result _ _ (λ (g : ConstraintValue). (n : ℕ) → c.args.problem.now.vars ≤ n → ImagesUpTo n c.args.w.now → UpTo n g) c.normal_form.ensures.normal c.normal_form.ensures.form
    (λ g normal form n upto images. normal_form_upto g c.deref.result.now _ n normal form (subst (LiteralsUpTo n) (sym c.deref.ensures.value) (c.loop-row.invariant.variables n upto images)))
