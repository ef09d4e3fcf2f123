-- What code answers that applies a token to a stack; nothing of it has to be believed.
use Rattle.std.specs.Prelude.{◌≡◌, ℕ, ◌-◌, ◌<◌, ◌≤◌, ◌++◌, List, Option, None, Result, MatchResult, length, slice_index_or, take, drop}
use Rattle.scut_base.specs.Literal.{Literal}
use Rattle.scut_base.specs.Fault.{IsFaultOr}
use Rattle.pb_lin.specs.Constraint.{ConstraintValue}
use Rattle.pb_lin.specs.Given.{Given}
use Rattle.cutting_planes.specs.Stack.{token_fault, named_fault, IsPushed, IsStep}
use Rattle.cutting_planes.specs.declared.token.PolToken.{PolToken}
use Rattle.cutting_planes.specs.declared.fault.PolFault.{PolFault}
use Rattle.cutting_planes.specs.declared.fault.PolFault.TheVariants.{NoMemory}

-- the token's step, where it isn't faulty
abbrev pub IsApplied : Given → PolToken → List ConstraintValue → List ConstraintValue → Result (Unit {0}) PolFault → Type 0
IsApplied given token old new result = MatchResult result (λ _. (token_fault given token old ≡ None) × IsStep given token old new) (λ f. IsFaultOr NoMemory (token_fault given token old) f)

-- the stack with a constraint on its top, where it is there
abbrev pub IsPushedIfNamed : Option ConstraintValue → ℕ → List ConstraintValue → List ConstraintValue → Result (Unit {0}) PolFault → Type 0
IsPushedIfNamed named id old new result = MatchResult result (λ _. (named_fault named id ≡ None) × IsPushed named old new) (λ f. IsFaultOr NoMemory (named_fault named id) f)

-- the terms from a place on up to another, whose variables are all below the given one, stand at the end
pub record IsPushedBelow (old new terms : List (Literal × ℕ)) (from var end : ℕ) : Type 0 where
  pub past : from < end
  pub bound : end ≤ length terms
  pub below : (k : ℕ) (d : Literal × ℕ) → from ≤ k → k < end → (slice_index_or terms k d).0.var < var
  pub pushed : new ≡ old ++ take (end - from) (drop from terms)
