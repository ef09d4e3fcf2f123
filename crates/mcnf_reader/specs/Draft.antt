-- What the statements read so far make.
use Rattle.std.specs.Prelude.{◌≡◌, ℕ, ◌<◌, ◌≤◌, ◌+◌, ◌-◌, max, Some, slice_get, slice_index, slice_set, List, [], ◌∷◌, ◌++◌, length, map, take, All}
use Rattle.std.specs.List.{range_with_len}
use Rattle.scut_base.specs.Literal.{Literal}
use Rattle.instance.specs.declared.objective.Objective.{Objective}
use Rattle.instance.specs.declared.objective.Soft.{Soft}
use Rattle.instance.specs.Shape.{InstanceValue, weights_sum, max_vars, max_objectives, magnitude_limit}
use Rattle.mcnf_reader.specs.declared.draft.Draft.{Draft}
use Rattle.mcnf_reader.specs.declared.statement.Statement.{Statement}
use Rattle.mcnf_reader.specs.Grammar.{hard_clauses, objective_at, softs_of, largest_of, largest_variable, objective_count}

-- an objective with a soft clause more
abbrev pub with_soft : Objective → Soft → Objective
with_soft o soft = record o { softs = o.softs ++ soft ∷ [] }

-- the objectives that a draft has room for
abbrev pub objective_numbers : List ℕ
objective_numbers = range_with_len 1 max_objectives

-- the sum of an objective's weights
abbrev pub weight_of : List Statement → ℕ → ℕ
weight_of statements k = weights_sum (softs_of k statements)

-- The draft has room for each objective, and no sum of weights is too large.
pub record IsReady (d : Draft) : Type 0 where
  pub room : length d.objectives.items ≡ max_objectives
  pub small : All (λ sum. sum < magnitude_limit) d.sums

-- The draft is what these statements make, within the limits.
pub record IsDraftOf (d : Draft) (statements : List Statement) : Type 0 where
  pub hard : d.clauses ≡ hard_clauses statements
  pub soft : d.objectives.items ≡ map (objective_at statements) objective_numbers
  pub weights : d.sums ≡ map (weight_of statements) objective_numbers
  pub variables : d.vars ≡ largest_variable statements
  pub variables_within : d.vars ≤ max_vars
  pub number : d.count ≡ objective_count statements
  pub number_within : d.count ≤ max_objectives

-- what a soft clause more makes of a draft
pub record AddsSoft (d e : Draft) (k weight : ℕ) (lits : List Literal) : Type 0 where
  pub clauses : e.clauses ≡ d.clauses
  pub vars : e.vars ≡ max d.vars (largest_of lits)
  pub count : e.count ≡ max d.count k
  pub sums : e.sums ≡ slice_set d.sums (k - 1) (slice_index d.sums (k - 1) + weight)
  pub softs : (o : Objective) → slice_get d.objectives.items (k - 1) ≡ Some o → e.objectives.items ≡ slice_set d.objectives.items (k - 1) (with_soft o (record { weight = weight; lits = lits }))

-- the instance of a draft
abbrev pub instance_of : Draft → InstanceValue
instance_of d = record { vars = d.vars; clauses = d.clauses; linear = []; objectives = take d.count d.objectives.items }
