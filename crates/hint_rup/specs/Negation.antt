-- The negation of what is to be shown.
use Rattle.std.specs.Prelude.{◌≡◌, ℕ, Bool, true, Option, Some, List, sum_by}
use Rattle.scut_base.specs.Literal.{Literal}
use Rattle.scut_base.specs.Assignment.{partial_truth}
use Rattle.pb_lin.specs.Constraint.{ConstraintValue, AreOnes, negation}
use Rattle.hint_rup.specs.declared.negated.Negated.{Negated}
use Rattle.hint_rup.specs.declared.negated.Negated.TheVariants.{Made, OfClause}

-- the constraint that is meant
abbrev pub negation_in : Negated → ConstraintValue
negation_in (Made c) = c.now
negation_in (OfClause c) = negation c.now

-- what is called a clause is one
abbrev pub IsNegation : Negated → Type 0
IsNegation (Made c) = Unit {0}
IsNegation (OfClause c) = AreOnes c.now.terms × (c.now.degree ≡ 1)

-- 1 for a true literal
abbrev pub if_true : Option Bool → ℕ
if_true (Some true) = 1
if_true truth = 0

-- how many of the literals are true
abbrev pub true_count : List (Option Bool) → List Literal → ℕ
true_count p lits = sum_by (λ l. if_true (partial_truth p l)) lits
