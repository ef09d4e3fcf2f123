-- Cost vectors and sums of costs, by the values of the cost rows.
use Rattle.std.proofs.Common.{◌≡◌, ◌≤◌, Bool, true, not, List, [], ◌∷◌, map, sum_by, refl, arith, ℤ, ◌≤ℤ◌}
use Rattle.std.specs.Prelude.{int_lt}
use Rattle.std.specs.List.{All}
use Rattle.std.proofs.lemmas.Bool.{and_parts, and_from, not-true, not_from_false}
use Rattle.std.proofs.lemmas.Int.{ints}
use Rattle.std.proofs.lemmas.List.Elements.{All-head, All-tail}
use Rattle.std.proofs.lemmas.List.Sums.{sum_by-cons}
use Rattle.pb_lin.specs.Constraint.{value}
use Rattle.pb_lin.specs.CostRow.{CostRowValue, row_cost}
use Rattle.front_set.specs.Vector.{is_below, IsBelow}

test_from_le : (x y : ℤ) → x ≤ℤ y → not (int_lt y x) ≡ true
test_from_le x y h = not_from_false (int_lt y x) (grind (arith, ints))

le_from_test : (x y : ℤ) → not (int_lt y x) ≡ true → x ≤ℤ y
le_from_test x y h = grind (arith, ints, not-true (int_lt y x) h)

-- no cost rises where no row's value does
pub below_by_costs : (a b : List Bool) (rows : List CostRowValue) → All (λ r. row_cost a r ≤ℤ row_cost b r) rows → IsBelow (map (row_cost a) rows) (map (row_cost b) rows)
below_by_costs a b [] h = refl
below_by_costs a b (r ∷ rows) h =
    and_from (not (int_lt (row_cost b r) (row_cost a r))) (is_below (map (row_cost a) rows) (map (row_cost b) rows))
    (test_from_le (row_cost a r) (row_cost b r) (All-head (λ q. row_cost a q ≤ℤ row_cost b q) r rows h))
    (below_by_costs a b rows (All-tail (λ q. row_cost a q ≤ℤ row_cost b q) r rows h))

pub below_by_values : (a b : List Bool) (rows : List CostRowValue) → All (λ r. value a r.terms ≤ value b r.terms) rows → IsBelow (map (row_cost a) rows) (map (row_cost b) rows)
below_by_values a b rows h = below_by_costs a b rows (λ k d short. let one = h k d short in omega (arith, ints))

-- where no cost rises, the sum of them doesn't
pub weight_by_below : (a b : List Bool) (rows : List CostRowValue) → IsBelow (map (row_cost a) rows) (map (row_cost b) rows) → sum_by (λ r. value a r.terms) rows ≤ sum_by (λ r. value b r.terms) rows
weight_by_below a b [] h = omega arith
weight_by_below a b (r ∷ rows) h =
    let parts = and_parts (not (int_lt (row_cost b r) (row_cost a r))) (is_below (map (row_cost a) rows) (map (row_cost b) rows)) h in
    let one : row_cost a r ≤ℤ row_cost b r = le_from_test (row_cost a r) (row_cost b r) parts.0 in
    let rest = weight_by_below a b rows parts.1 in
    let left = sum_by-cons (λ q. value a q.terms) r rows in
    let right = sum_by-cons (λ q. value b q.terms) r rows in
    omega (arith, ints)
