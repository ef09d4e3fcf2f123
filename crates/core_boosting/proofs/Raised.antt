-- An offset that is raised by a weight.
use Rattle.std.proofs.Common.{◌≡◌, ℕ, ◌<◌, ap₂, ◌∙◌, ℤ, pos, ◌+ℤ◌, to_z, of_z, FitsSigned, arith}
use Rattle.std.specs.Prelude.{◌^◌, ◌<ℤ◌}
use Rattle.std.specs.Int.{w64}
use Rattle.std.proofs.lemmas.Int.{ints}

pub weight_fits : (w : ℕ) → w < 2 ^ 63 → FitsSigned w64 (pos w)
weight_fits w small = omega (arith, ints)

module _ (x : ℤ) (w : ℕ) (in_range : FitsSigned w64 x) (small : w < 2 ^ 63) (most : (x +ℤ pos w) <ℤ pos (2 ^ 63)) where
  plain : to_z w64 (of_z w64 x) ≡ x
  plain = omega (arith, ints)

  natural : to_z w64 w ≡ pos w
  natural = omega (arith, ints)

  pub raised_fits : FitsSigned w64 (to_z w64 (of_z w64 x) +ℤ to_z w64 w)
  raised_fits = let a = plain in let b = natural in omega (arith, ints)

  pub raised_is : to_z w64 (of_z w64 (to_z w64 (of_z w64 x) +ℤ to_z w64 w)) ≡ x +ℤ pos w
  raised_is =
      let sum : to_z w64 (of_z w64 (x +ℤ pos w)) ≡ x +ℤ pos w = omega (arith, ints) in
      ap₂ (λ (y z : ℤ). to_z w64 (of_z w64 (y +ℤ z))) plain natural ∙ sum
