-- Good states: what holds between two turns of searches on one board.
use Rattle.std.specs.Prelude.{◌≡◌, ◌≤◌, List, Bool, All}
use Rattle.pb_lin.specs.Constraint.{Holds}
use Rattle.pb_lin.specs.Problem.{problem_costs}
use Rattle.proof_laws.specs.State.{StateValue}
use Rattle.proof_rules.specs.Recording.{Snapshot, KeepsSurroundings}
use Rattle.oracle.specs.Solving.{AreEarned, IsWithin}
use Rattle.sum_outputs.specs.Adding.{IsReached, IsReady, KeptHold}
use Rattle.search_base.specs.Logged.{AddsTurnLines, IsCovered, logged}
use Rattle.search_base.specs.CostBounds.{FitBounds}
use Rattle.search_base.specs.Boards.{BoardValue, IsBoard}
use Rattle.search_base.specs.declared.objective_bound.ObjectiveBound.{ObjectiveBound}

-- no logged vector is below the costs of an assignment that makes the rows and the kept clauses hold
abbrev pub AllIsNew : Snapshot → Type 0
AllIsNew a = (s : StateValue) → IsReached a s → (x : List Bool) → All (Holds x) a.problem.rows
    → KeptHold a.problem a.lines s x → IsCovered a.problem a.lines (problem_costs a.problem x) → ⊥

-- The lines reach a state that hasn't ended and have earned their clauses, as many as may be; the bounds may be asked;
-- the board has models for what is logged, and all that is left is new.
pub record IsGood (a : Snapshot) (asked : List ObjectiveBound) (front : BoardValue) : Type 0 where
  pub ready : IsReady a
  pub problem : front.problem ≡ a.problem
  pub board : IsBoard front (logged a.problem a.lines)
  pub bounds : FitBounds a asked
  pub earned : AreEarned a.problem a.lines
  pub within : IsWithin a.limit a.problem a.lines
  pub new : AllIsNew a

-- what no call changes, and the lines that it may add
pub record GoesOn (a b : Snapshot) : Type 0 where
  pub problem : b.problem ≡ a.problem
  pub limit : b.limit ≡ a.limit
  pub later : a.faults ≤ b.faults
  pub around : KeepsSurroundings a.around b.around
  pub lines : AddsTurnLines a.problem a.lines b.lines

-- a board is that of the same instance
pub record KeepsBoard (old new : BoardValue) : Type 0 where
  pub instance : new.instance ≡ old.instance
  pub problem : new.problem ≡ old.problem
