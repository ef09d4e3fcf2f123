-- The variables of the lines that hints name.
use Rattle.std.specs.Prelude.{◌≡◌, ℕ, Option, Some, None, List, IfSome, refl}
use Rattle.std.proofs.Common.{get_or}
use Rattle.std.specs.FinMap.{get}
use Rattle.pb_lin.specs.Constraint.{ConstraintValue, UpTo}
use Rattle.pb_lin.specs.Given.{Given}
use Rattle.pb_lin.specs.LineMap.{LinesUpTo}
use Rattle.hint_rup.specs.declared.hint.Hint.{Hint}
use Rattle.hint_rup.specs.declared.hint.Hint.TheVariants.{Id, Negated, Denied}
use Rattle.hint_rup.specs.Hints.{line_of, HintsUpTo}

if_found : (P : ConstraintValue → Type 0) (o : Option ConstraintValue) → ((c : ConstraintValue) → o ≡ Some c → P c) → IfSome o P
if_found P None each = tt
if_found P (Some c) each = each c refl

line_upto : (n : ℕ) (given : Given) → LinesUpTo n given.lines → IfSome given.negated (UpTo n) → IfSome given.denied (UpTo n) → (h : Hint) → IfSome (line_of given h) (UpTo n)
line_upto n given lines negated denied (Id id) = if_found (UpTo n) (get given.lines id) (lines id)
line_upto n given lines negated denied Negated = negated
line_upto n given lines negated denied Denied = denied

-- what `replay` requires of the hints, where it holds of all that they may name
pub hints_upto : (n : ℕ) (given : Given) (hints : List Hint) → LinesUpTo n given.lines → IfSome given.negated (UpTo n) → IfSome given.denied (UpTo n) → HintsUpTo n given hints
hints_upto n given hints lines negated denied = λ k d within. line_upto n given lines negated denied (get_or hints k d)
