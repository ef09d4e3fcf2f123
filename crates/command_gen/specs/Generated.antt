-- The instance that is made from a number.
use Rattle.std.specs.Prelude.{ℕ, ◌+◌, ◌*◌, true, false, List, [], ◌∷◌, map, pos}
use Rattle.std.specs.List.{range_with_len}
use Rattle.scut_base.specs.Literal.{Literal}
use Rattle.instance.specs.declared.objective.Soft.{Soft}
use Rattle.instance.specs.declared.objective.Objective.{Objective}
use Rattle.instance.specs.declared.objective.Sense.TheVariants.{Min}
use Rattle.instance.specs.Shape.{InstanceValue}
use Rattle.command_gen.specs.Draws.{beginning, draw, state_after}

-- the k-th item that is drawn after a state
abbrev pub drawn_item : ℕ → ℕ → ℕ → Literal
drawn_item vars state k = record { var = 1 + draw vars state k; neg = false }

-- a clause of three items, in the order in which they are drawn
abbrev pub drawn_clause : ℕ → ℕ → List Literal
drawn_clause vars state = map (drawn_item vars state) (range_with_len 1 3)

-- The item isn't to be taken: where it is, it costs a weight from 1 to 4.
abbrev pub soft_of : ℕ → ℕ → Soft
soft_of item weight = record { weight = 1 + weight; lits = record { var = item; neg = true } ∷ [] }

-- the weight of item k is the k-th that is drawn after a state
abbrev pub drawn_soft : ℕ → ℕ → Soft
drawn_soft state k = soft_of k (draw 4 state k)

-- an objective with a soft clause for each item
abbrev pub drawn_objective : ℕ → ℕ → Objective
drawn_objective vars state = record { sense = Min; softs = map (drawn_soft state) (range_with_len 1 vars); terms = []; offset = pos 0 }

-- the clause after k clauses: each takes three draws
abbrev pub nth_clause : ℕ → ℕ → ℕ → List Literal
nth_clause vars state k = drawn_clause vars (state_after (3 * k) state)

-- as many clauses as variables
abbrev pub drawn_clauses : ℕ → ℕ → List (List Literal)
drawn_clauses vars state = map (nth_clause vars state) (range_with_len 0 vars)

-- the objective after k objectives: each takes a draw for each item
abbrev pub nth_objective : ℕ → ℕ → ℕ → Objective
nth_objective vars state k = drawn_objective vars (state_after (vars * k) state)

-- so many objectives
abbrev pub drawn_objectives : ℕ → ℕ → ℕ → List Objective
drawn_objectives vars count state = map (nth_objective vars state) (range_with_len 0 count)

-- The clauses are drawn first, and then the objectives.
abbrev pub generated : ℕ → ℕ → ℕ → InstanceValue
generated number vars objectives = record {
  vars = vars;
  clauses = drawn_clauses vars (beginning number);
  linear = [];
  objectives = drawn_objectives vars objectives (state_after (3 * vars) (beginning number));
}
