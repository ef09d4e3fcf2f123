use Rattle.std.proofs.Common.{◌≡◌, ℕ, List, Bool, map, ap, ◌∙◌, subst, ℤ, ◌+ℤ◌, to_z, of_z, Result, Ok, Err, arith}
use Rattle.std.specs.Prelude.{IfOk}
use Rattle.std.specs.Int.{w128}
use Rattle.std.proofs.lemmas.Int.{ints}
use Rattle.scut_base.specs.Literal.{Literal}
use Rattle.pb_lin.specs.CostRow.{CostRowValue, row_cost, IsCostRow}
use Rattle.pb_lin.specs.NormalForm.{sum_value}
use Rattle.instance_normal.specs.NormalForm.{IsCostRowOf, AreSomeOf, first_seen}
use Rattle.instance_normal.specs.Merging.{variables, sums_value}
use Rattle.instance_normal.proofs.Sizes.{value_small}
use Rattle.instance_normal.proofs.Truth.{sum_value-terms_value}
use Rattle.instance_normal.proofs.cost.cost_row.Goals as goal

pub signed_row-requires-clause-bounds : goal.signed_row-requires-clause-bounds
signed_row-requires-clause-bounds c = λ a.
    let slice = ap (sums_value a) c.as_slice.ensures.value in
    let sum = c.in_ok-sums.ensures.value a in
    let same = sum_value-terms_value a c.args.terms.now in
    let small = value_small a c.args.terms.now in
    omega (arith, ints, c.from.ensures, c.from-2.ensures, c.requires, c.in_ok-sums.ensures.constant)

finish : {E : Type 0} (r : Result CostRowValue E) (terms : List (ℤ × Literal)) (offset constant whole : ℤ) (sums slice : List (ℕ × ℤ)) → slice ≡ sums → whole ≡ offset +ℤ constant → variables sums ≡ first_seen terms → ((a : List Bool) → sums_value a sums +ℤ constant ≡ sum_value a terms) → IfOk r (λ c. (a : List Bool) → row_cost a c ≡ sums_value a slice +ℤ whole) → IfOk r (λ c. IsCostRow c.terms c.offset) → IfOk r (λ c. AreSomeOf (map (λ t. t.0.var) c.terms) (variables slice)) → IfOk r (IsCostRowOf (record { terms = terms; offset = offset }))
finish (Ok c) terms offset constant whole sums slice same split seen sum value row order = record {
  row = row;
  value = λ a. (let here = value a in let there = sum a in let moved = ap (sums_value a) same in omega (arith, ints));
  order = subst (AreSomeOf (map (λ t. t.0.var) c.terms)) (ap variables same ∙ seen) order;
}
finish (Err e) terms offset constant whole sums slice same split seen sum value row order = row

pub returns : goal.returns
returns c =
    let split : to_z w128 (of_z w128 (to_z w128 (of_z w128 c.from.result) +ℤ to_z w128 (of_z w128 c.from-2.result))) ≡ c.args.offset +ℤ c.in_ok-sums.constant = omega (arith, ints, c.from.ensures, c.from-2.ensures, c.requires, c.in_ok-sums.ensures.constant) in
    finish c.signed_row.result c.args.terms.now c.args.offset c.in_ok-sums.constant (to_z w128 (of_z w128 (to_z w128 (of_z w128 c.from.result) +ℤ to_z w128 (of_z w128 c.from-2.result)))) c.in_ok-sums.sums.items c.as_slice.result.now c.as_slice.ensures.value split c.in_ok-sums.ensures.order c.in_ok-sums.ensures.value c.signed_row.ensures.value c.signed_row.ensures.row c.signed_row.ensures.order
