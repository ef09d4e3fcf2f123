use Rattle.std.proofs.Common.{◌≡◌, ◌≤◌, ◌<◌, ◌+◌, ◌^◌, ℤ, ◌+ℤ◌, unsigned_abs, to_z, of_z, take, subst, sym, ◌∙◌, arith}
use Rattle.std.specs.Int.{w64}
use Rattle.std.proofs.lemmas.Int.{ints}
use Rattle.std.proofs.lemmas.List.Sums.{sum_by-take-le}
use Rattle.instance.specs.Shape.{terms_magnitude}
use Rattle.instance.specs.Meaning.{term_value}
use Rattle.instance.proofs.Sums.{sum_goes_on, bound_goes_on}
use Rattle.instance.proofs.evaluate.terms_value.Goals as goal

pub loop-term-preserved : goal.loop-term-preserved
loop-term-preserved c =
    let sum : ℤ = to_z w64 c.loop-term.sum-bits in
    let bound : unsigned_abs (sum +ℤ c.term_value-sum.result) ≤ terms_magnitude (take (c.loop-term.term-index + 1) c.args.terms.now) =
    bound_goes_on (λ t. unsigned_abs t.0) c.args.terms.now c.loop-term.term-index c.term-item.result sum c.term_value-sum.result c.loop-term-test.true c.term-item.is c.loop-term.invariant.bound c.term_value-sum.ensures.bound in
    let within : terms_magnitude (take (c.loop-term.term-index + 1) c.args.terms.now) ≤ terms_magnitude c.args.terms.now = sum_by-take-le (λ t. unsigned_abs t.0) c.args.terms.now (c.loop-term.term-index + 1) in
    let small : terms_magnitude c.args.terms.now < 2 ^ 63 = c.requires.magnitude in
    let plain : to_z w64 (of_z w64 (sum +ℤ to_z w64 (of_z w64 c.term_value-sum.result))) ≡ sum +ℤ c.term_value-sum.result = omega (arith, ints) in
    record {
      value = plain ∙ sum_goes_on (term_value c.args.a.now) c.args.terms.now c.loop-term.term-index c.term-item.result sum c.term_value-sum.result c.loop-term-test.true c.term-item.is c.loop-term.invariant.value c.term_value-sum.ensures.value;
      bound = subst (λ (z : ℤ). unsigned_abs z ≤ terms_magnitude (take (c.loop-term.term-index + 1) c.args.terms.now)) (sym plain) bound;
    }
