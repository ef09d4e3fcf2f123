use Rattle.std.proofs.Common.{ℕ, ◌<◌, arith, ap, subst, sym, ◌∙◌, rules, ℤ, pos, ◌-ℤ◌}
use Rattle.std.specs.List.{All}
use Rattle.std.specs.Int.{int_max}
use Rattle.std.specs.List.Sorted.{IsNonDecreasingBy}
use Rattle.std.proofs.lemmas.Int.{ints, clamps, to_z-of_z}
use Rattle.std.proofs.lemmas.List.Sorted.{IsNonDecreasingBy-from_sort_by_key, All-permutation, sum_by-IsPermutation}
use Rattle.scut_base.specs.Literal.{Literal}
use Rattle.pb_lin.specs.Constraint.{ConstraintValue, IsMerged, total, value, term_value}
use Rattle.pb_lin.proofs.normal.normal_form_of_positive.Goals as goal

pub merged-requires-clause-order : goal.merged-requires-clause-order
merged-requires-clause-order c = subst (IsNonDecreasingBy {X = Literal × ℕ} (λ t. t.0.var)) (sym c.as_slice.ensures.value) (IsNonDecreasingBy-from_sort_by_key (λ t. t.0.var) _ c.sort_unstable_by_key.ensures.sorted (λ a r q k. search rules))

pub merged-requires-clause-positive : goal.merged-requires-clause-positive
merged-requires-clause-positive c = subst (All {X = Literal × ℕ} (λ t. 0 < t.1)) (sym c.as_slice.ensures.value) (All-permutation (λ t. 0 < t.1) _ _ c.sort_unstable_by_key.ensures.permutation c.requires.positive)

pub merged-requires-clause-small : goal.merged-requires-clause-small
merged-requires-clause-small c =
    let same = sum_by-IsPermutation {X = Literal × ℕ} (λ t. t.1) _ _ c.sort_unstable_by_key.ensures.permutation in
    let here = ap total c.as_slice.ensures.value in
    omega arith

pub degree_without-degree-requires-clause-small : goal.degree_without-degree-requires-clause-small
degree_without-degree-requires-clause-small c =
    let same = sum_by-IsPermutation {X = Literal × ℕ} (λ t. t.1) _ _ c.sort_unstable_by_key.ensures.permutation in
    let here = ap total c.as_slice.ensures.value in
    let less = c.in_ok-merged.ensures.total in
    omega arith

pub from_terms-requires : goal.from_terms-requires
from_terms-requires c = record {
  merged = subst IsMerged (sym c.as_slice-2.ensures) c.in_ok-merged.ensures.merged;
  small =
      let same = sum_by-IsPermutation {X = Literal × ℕ} (λ t. t.1) _ _ c.sort_unstable_by_key.ensures.permutation in
      let here = ap total c.as_slice.ensures.value in
      let less = c.in_ok-merged.ensures.total in
      let whole = ap total c.as_slice-2.ensures in
      omega (arith, ints, clamps);
}

pub returns : goal.returns
returns c = record {
  least = c.args.least -ℤ pos c.in_ok-merged.cancelled;
  same = λ a.
      let same = sum_by-IsPermutation {X = Literal × ℕ} (term_value a) _ _ c.sort_unstable_by_key.ensures.permutation in
      let here = ap (value a) c.as_slice.ensures.value in
      let merged = c.in_ok-merged.ensures.value a in
      let terms = ap (λ (r : ConstraintValue). value a r.terms) c.in_ok-constraint.ensures ∙ ap (value a) c.as_slice-2.ensures in
      omega (arith, ints);
  degree = ap (λ (r : ConstraintValue). pos r.degree) c.in_ok-constraint.ensures ∙ c.degree_without-degree.ensures ∙ ap (λ (z : ℤ). int_max (z -ℤ pos c.in_ok-merged.cancelled) (pos 0)) (to_z-of_z _ _ c.ranges.least);
}
