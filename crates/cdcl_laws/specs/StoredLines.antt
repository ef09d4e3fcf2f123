-- The lines of a proof that a search stores: the problem's rows and the live clauses.
use Rattle.std.specs.Prelude.{◌≡◌, ℕ, ◌<◌, ◌≤◌, List, [], Some}
use Rattle.std.specs.FinMap.{get}
use Rattle.pb_lin.specs.Constraint.{ConstraintValue}
use Rattle.pb_lin.specs.Problem.{ProblemValue}
use Rattle.pb_lin.specs.LineMap.{LineMap}
use Rattle.proof_laws.specs.State.{StateValue}
use Rattle.proof_laws.specs.Earned.{IsRowOrClause}
use Rattle.proof_laws.specs.declared.line.Line.{Line}
use Rattle.proof_laws.specs.declared.line.Line.TheVariants.{Del, Reduce}

-- stored are the rows and the live clauses with ids below `next`
pub record IsStored (p : ProblemValue) (s : StateValue) (next : ℕ) (store : LineMap) : Type 0 where
  pub within : next ≤ s.next_id
  pub live : (id : ℕ) (c : ConstraintValue) → get store id ≡ Some c → (id < next) × (get s.live id ≡ Some c) × IsRowOrClause p s id
  pub all : (id : ℕ) (c : ConstraintValue) → id < next → get s.live id ≡ Some c → IsRowOrClause p s id → get store id ≡ Some c

-- the ids that a line deletes
abbrev pub deleted : Line → List ℕ
deleted (Del ids) = ids
deleted (Reduce ids) = ids
deleted line = []
