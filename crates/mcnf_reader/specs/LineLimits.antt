-- The limits of one statement.
use Rattle.std.specs.Prelude.{◌≡◌, ℕ, ◌<◌, ◌≤◌, ◌+◌, ◌-◌, List, map, slice_index}
use Rattle.scut_base.specs.Literal.{Literal}
use Rattle.instance.specs.Shape.{ClauseUpTo, max_vars, max_objectives, magnitude_limit}
use Rattle.mcnf_reader.specs.declared.statement.Statement.{Statement}
use Rattle.mcnf_reader.specs.declared.statement.Statement.TheVariants.{Nothing, Hard, Soft}
use Rattle.mcnf_reader.specs.FirstFault.{weights_in}
use Rattle.mcnf_reader.specs.Draft.{objective_numbers}

-- no variable of the clause is above the limit
abbrev pub IsClauseWithin : List Literal → Type 0
IsClauseWithin lits = ClauseUpTo max_vars lits

-- The statement keeps the limits, where the objectives have these sums of weights already.
abbrev pub IsStatementWithin : List ℕ → Statement → Type 0
IsStatementWithin sums Nothing = Unit {0}
IsStatementWithin sums (Hard lits) = IsClauseWithin lits
IsStatementWithin sums (Soft objective weight lits) = (0 < objective) × (objective ≤ max_objectives) × (slice_index sums (objective - 1) + weight < magnitude_limit) × IsClauseWithin lits

-- These are the sums of the weights in these lines.
abbrev pub IsSumsOf : List (List (List ℕ)) → List ℕ → Type 0
IsSumsOf before sums = sums ≡ map (λ k. weights_in k before) objective_numbers
