-- Assignments: the list of the variables' truth values, and the literals that they make true.
use Rattle.std.specs.Prelude.{ℕ, ◌-◌, Bool, false, not, if◌then◌else◌, List, slice_index_or, Option, None, option_map}
use Rattle.scut_base.specs.Literal.{Literal}

-- the value of a variable: that of variable 1 is first
abbrev pub value_of : List Bool → ℕ → Bool
value_of a var = slice_index_or a (var - 1) false

-- the truth of a literal
abbrev pub lit_true : List Bool → Literal → Bool
lit_true a l = if l.neg then not (value_of a l.var) else value_of a l.var

-- the value of a variable in a partial assignment, or none where it is open
abbrev pub partial_value : List (Option Bool) → ℕ → Option Bool
partial_value p var = slice_index_or p (var - 1) None

-- the truth of a literal in a partial assignment, or none where its variable is open
abbrev pub partial_truth : List (Option Bool) → Literal → Option Bool
partial_truth p l = option_map (λ b. if l.neg then not b else b) (partial_value p l.var)
