-- How far a left side is above its degree.
use Rattle.std.proofs.Common.{◌≡◌, ◌∙◌, List, Bool, ℤ}
use Rattle.pb_lin.specs.Constraint.{ConstraintValue}
use Rattle.pb_lin.specs.NormalForm.{HasExcess}

-- the same excess in other words
pub HasExcess-same : (c : ConstraintValue) (f g : List Bool → ℤ) → HasExcess c f → ((a : List Bool) → f a ≡ g a) → HasExcess c g
HasExcess-same c f g has same = record { least = has.least; same = λ a. has.same a ∙ same a; degree = has.degree }
