use Rattle.std.proofs.Common.{◌≡◌, ◌≤◌, ◌<◌, ◌+◌, ◌^◌, ℤ, ◌+ℤ◌, unsigned_abs, to_z, of_z, take, subst, sym, ◌∙◌, arith}
use Rattle.std.specs.Int.{w64}
use Rattle.std.proofs.lemmas.Int.{ints}
use Rattle.std.proofs.lemmas.List.Sums.{sum_by-take-le}
use Rattle.instance.specs.Shape.{weights_sum}
use Rattle.instance.specs.Meaning.{soft_cost}
use Rattle.instance.proofs.Sums.{sum_goes_on, bound_goes_on}
use Rattle.instance.proofs.evaluate.softs_cost.Goals as goal

pub loop-soft-preserved : goal.loop-soft-preserved
loop-soft-preserved c =
    let sum : ℤ = to_z w64 c.loop-soft.sum-bits in
    let bound : unsigned_abs (sum +ℤ c.soft_cost-sum.result) ≤ weights_sum (take (c.loop-soft.soft-index + 1) c.args.softs.now) =
    bound_goes_on (λ s. s.weight) c.args.softs.now c.loop-soft.soft-index c.soft-item.result sum c.soft_cost-sum.result c.loop-soft-test.true c.soft-item.is c.loop-soft.invariant.bound c.soft_cost-sum.ensures.bound in
    let within : weights_sum (take (c.loop-soft.soft-index + 1) c.args.softs.now) ≤ weights_sum c.args.softs.now = sum_by-take-le (λ s. s.weight) c.args.softs.now (c.loop-soft.soft-index + 1) in
    let small : weights_sum c.args.softs.now < 2 ^ 63 = c.requires.magnitude in
    let plain : to_z w64 (of_z w64 (sum +ℤ to_z w64 (of_z w64 c.soft_cost-sum.result))) ≡ sum +ℤ c.soft_cost-sum.result = omega (arith, ints) in
    record {
      value = plain ∙ sum_goes_on (soft_cost c.args.a.now) c.args.softs.now c.loop-soft.soft-index c.soft-item.result sum c.soft_cost-sum.result c.loop-soft-test.true c.soft-item.is c.loop-soft.invariant.value c.soft_cost-sum.ensures.value;
      bound = subst (λ (z : ℤ). unsigned_abs z ≤ weights_sum (take (c.loop-soft.soft-index + 1) c.args.softs.now)) (sym plain) bound;
    }
