-- The proofs of rows, of one entry after the other.
use Rattle.std.proofs.Common.{ℕ, List, map}
use Rattle.std.specs.List.{filter}
use Rattle.scut_base.specs.Literal.{Literal}
use Rattle.pb_lin.specs.Constraint.{ConstraintValue, opposite}
use Rattle.proof_laws.specs.declared.goal.Goal.{Goal}
use Rattle.proof_laws.specs.declared.goal.GoalProof.{GoalProof}
use Rattle.harden.specs.Hardened.{row_proof, stays_open}

abbrev pub Pairs : Type 0
Pairs = List (Goal × GoalProof)

abbrev pub Rows : Type 0
Rows = List (ℕ × ConstraintValue)

-- the rows of which something is left
abbrev pub kept : Literal → Rows → Rows
kept l rows = filter (λ e. stays_open (opposite l) e.1) rows

-- a proof for each of these rows
abbrev pub proofs_of : Rows → Pairs
proofs_of rows = map row_proof (map (λ e. e.0) rows)
