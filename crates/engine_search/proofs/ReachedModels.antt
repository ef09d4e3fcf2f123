-- Models in the state that a recorder has reached.
use Rattle.std.proofs.Common.{◌≡◌, Bool, List, subst, sym}
use Rattle.std.specs.List.{All}
use Rattle.scut_base.specs.Literal.{Literal}
use Rattle.pb_lin.specs.Problem.{ProblemValue, IsProblem}
use Rattle.proof_laws.specs.State.{Fits, StateValue}
use Rattle.proof_laws.specs.Replay.{IsReplay}
use Rattle.proof_laws.specs.WellFormed.{IsWellFormed}
use Rattle.proof_laws.proofs.Replays.{replay_once}
use Rattle.proof_rules.specs.Recording.{Snapshot}
use Rattle.oracle.specs.Solving.{IsSolution, Reaches}
use Rattle.recording.proofs.JudgedLines.{reached_fits}

module _ (a : Snapshot) (p : ProblemValue) (same : a.problem ≡ p) (s : StateValue) (reached : IsReplay a.problem a.lines s) where
  -- the state is one of a proof over the problem
  pub state_fits : IsProblem p → All IsWellFormed a.lines → Fits p s
  state_fits is formed = subst (λ (q : ProblemValue). Fits q s) same
      (reached_fits a.problem a.lines s reached (subst IsProblem (sym same) is) formed)

  -- what satisfies it is a solution of the state that the lines reach
  pub solution_here : (lits : List Literal) (x : List Bool) → IsSolution p lits x s → Reaches p a.lines (IsSolution p lits x)
  solution_here lits x is t other = subst (IsSolution p lits x)
      (replay_once p a.lines s t (subst (λ (q : ProblemValue). IsReplay q a.lines s) same reached) other) is
