use Rattle.std.proofs.Common.{◌≡◌, ◌<◌, ◌+◌, ◌^◌, List, [], ◌∷◌, ◌++◌, length, take, slice_index_or, ℤ, pos, unsigned_abs, to_z, of_z, sym, ap, ◌∙◌, subst, append_assoc, arith}
use Rattle.std.specs.Int.{w64}
use Rattle.std.proofs.lemmas.Int.{ints}
use Rattle.std.proofs.lemmas.List.{take_more}
use Rattle.pb_lin.specs.Constraint.{ConstraintValue}
use Rattle.pb_lin.specs.CostRow.{CostRowValue}
use Rattle.representatives.specs.Bounded.{AreCostBounds, IsCostBound}
use Rattle.representatives.proofs.Bounds.{bounds_push}
use Rattle.representatives.proofs.bounded.add_bounds.Goals as goal

pub loop-i-preserved : goal.loop-i-preserved
loop-i-preserved c =
    let rs : List CostRowValue = c.args.costs.now in
    let us : List ℤ = c.args.numbers.now in
    let r : CostRowValue = c.index-costs-i.result in
    let u : ℤ = slice_index_or us c.loop-i.i (pos 0) in
    let bound : ConstraintValue = c.in_ok-cost_bound.field-0 in
    let before = c.loop-i.invariant in
    let within : c.loop-i.i < length us = omega (arith, c.requires.numbers, c.loop-i-test.true) in
    let more_rows : take (c.loop-i.i + 1) rs ≡ take c.loop-i.i rs ++ r ∷ [] = take_more rs c.loop-i.i r c.loop-i-test.true ∙ ap (λ (x : CostRowValue). take c.loop-i.i rs ++ x ∷ []) (sym c.index-costs-i.is) in
    let more_numbers : take (c.loop-i.i + 1) us ≡ take c.loop-i.i us ++ u ∷ [] = take_more us c.loop-i.i (pos 0) within in
    let small : unsigned_abs u < 2 ^ 63 = c.requires.small c.loop-i.i (pos 0) within in
    let plain : to_z w64 (of_z w64 u) ≡ u = omega (arith, ints, small) in
    let is : IsCostBound r u bound = subst (λ (z : ℤ). IsCostBound r z bound) plain c.in_ok-cost_bound.ensures in
    let pushed = bounds_push (take c.loop-i.i rs) (take c.loop-i.i us) before.0 r u bound before.1 is in (
      before.0 ++ bound ∷ [],
      subst (λ (xs : List CostRowValue). AreCostBounds xs (take (c.loop-i.i + 1) us) (before.0 ++ bound ∷ [])) (sym more_rows)
          (subst (λ (ys : List ℤ). AreCostBounds (take c.loop-i.i rs ++ r ∷ []) ys (before.0 ++ bound ∷ [])) (sym more_numbers) pushed),
      c.in_ok-push.ensures.ok ∙ ap (λ (cs : List ConstraintValue). cs ++ bound ∷ []) before.2 ∙ append_assoc c.args.rows.now before.0 (bound ∷ []),
    )
