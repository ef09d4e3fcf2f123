-- A proof that ends and logs nothing.
use Rattle.std.specs.Prelude.{◌⊎◌, Bool, List, [], ℕ}
use Rattle.std.proofs.Common.{inl, inr}
use Rattle.std.proofs.lemmas.List.Elements.{All-contains}
use Rattle.scut_base.proofs.Lists.{Contains-nil}
use Rattle.pb_lin.specs.Problem.{ProblemValue, IsProblem, IsProblemModel, problem_costs}
use Rattle.proof_laws.specs.State.{IsState, IsLogged, IsReached}
use Rattle.proof_laws.specs.Laws.{ReplayIsSound}
use Rattle.proof_laws.proofs.NextKept.{replay_law, ended_law}
use Rattle.log_checker.specs.Accepted.{IsCovered, IsEndedProof}

-- where no vector covers, none is logged, and the problem has no model
pub ended_empty_law : (q : ProblemValue) (log : List ℕ) → IsProblem q → IsEndedProof q [] log → (b : List Bool) → IsProblemModel q b → ⊥
ended_empty_law q log problem proof b model =
    let sound : ReplayIsSound q proof.state = replay_law q proof.lines proof.state problem proof.spelled.formed proof.replay in
    either sound.state (sound.covers b model)
  where
    either : IsState proof.state → IsLogged proof.state (problem_costs q b) ⊎ IsReached q proof.state (problem_costs q b) → ⊥
    either state (inl logged) = let by = All-contains (IsCovered []) proof.state.sols logged.0 proof.covered logged.1 in Contains-nil by.0 by.1
    either state (inr reached) = ended_law q proof.state state proof.ended reached.0 reached.1
