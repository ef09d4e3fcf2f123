-- What the private readers of witnesses and goals answer. No public contract stands on it.
use Rattle.std.specs.Prelude.{ℕ, ◌<◌, ◌^◌, List, ◌∷◌, ◌++◌}
use Rattle.std.specs.List.{flat_map}
use Rattle.pb_lin.specs.Constraint.{ConstraintValue}
use Rattle.pb_lin.specs.Substitution.{Images}
use Rattle.pb_lin.specs.declared.witness.Image.{Image}
use Rattle.proof_laws.specs.declared.goal.Goal.{Goal}
use Rattle.proof_laws.specs.declared.goal.GoalProof.{GoalProof}
use Rattle.proof_laws.specs.WellFormed.{IsVariable, IsConstraint, IsImage, IsGoal, IsGoalProof, IsSubstitution, AreProofs}
use Rattle.proof_lines.specs.LineText.{goal_word, goal_words, image_words, proof_words, witnessed_words}
use Rattle.proof_lines.specs.declared.spelling.Spelling.{Spelling}

-- a variable with its image, of any variables
abbrev pub IsImageOf : ℕ × Image → Type 0
IsImageOf i = IsVariable i.0 × IsImage i.1

-- a goal with its proof
abbrev pub IsProved : Goal × GoalProof → Type 0
IsProved q = IsGoal q.0 × IsGoalProof q.1

-- their words after the `:`
abbrev pub proved_words : Spelling → Goal × GoalProof → List (List ℕ)
proved_words spelling q = goal_word spelling q.0 ∷ proof_words spelling q.1

-- the number of an objective
abbrev pub IsObjective : ℕ → Type 0
IsObjective i = (0 < i) × (i < 2 ^ 32)

-- a substitution, and the proofs of its goals
abbrev pub Substituted : Type 0
Substituted = Images × List (Goal × GoalProof)

abbrev pub IsSubstituted : Substituted → Type 0
IsSubstituted s = IsSubstitution s.0 × AreProofs s.1

abbrev pub substituted_words : Spelling → Substituted → List (List ℕ)
substituted_words spelling s = flat_map image_words s.0 ++ flat_map (goal_words spelling) s.1

-- a constraint with both
abbrev pub Witnessed : Type 0
Witnessed = ConstraintValue × Images × List (Goal × GoalProof)

abbrev pub IsWitnessed : Witnessed → Type 0
IsWitnessed w = IsConstraint w.0 × IsSubstitution w.1 × AreProofs w.2

abbrev pub words_of_witnessed : Spelling → Witnessed → List (List ℕ)
words_of_witnessed spelling w = witnessed_words spelling w.0 w.1 w.2
