-- A model that is taken by a cut is pending.
use Rattle.std.proofs.Common.{◌≡◌, ℕ, List, [], ◌∷◌, ◌++◌, Bool, take, sym, subst, arith}
use Rattle.scut_base.specs.Literal.{Literal}
use Rattle.instance_normal.specs.NormalForm.{IsNormalFormOf}
use Rattle.pb_lin.specs.Problem.{ProblemValue, IsProblemModel, problem_costs}
use Rattle.proof_rules.specs.Recording.{Snapshot}
use Rattle.totalizer.specs.Keeping.{FittingStays, OwnLinesStay, ReformStays}
use Rattle.search_base.specs.Boards.{BoardValue, IsModelPair}
use Rattle.search_base.specs.Cutting.{IsPut}
use Rattle.search_base.specs.Good.{GoesOn}
use Rattle.search_base.specs.Pending.{IsGoodBut, IsPending, LogsByCut, TakesPending}
use Rattle.search_base.specs.declared.objective_bound.ObjectiveBound.{ObjectiveBound}
use Rattle.search_base.proofs.LoggedStates.{good_but_after, logs_by_cut}
use Rattle.search_base.proofs.Taking.{IsTightened, tight_below, tight_model_pair}

module _ (a b : Snapshot) (bounds : List ObjectiveBound) (old : BoardValue) (pending : List (List Bool))
    (y x : List Bool) (cut : List Literal) (ids : List ℕ) (good : IsGoodBut a bounds old pending)
    (model : IsProblemModel a.problem y) (tight : IsTightened old.instance a.problem y x) (logs : LogsByCut a b x cut ids)
  where
    is_pending : IsPending old x
    is_pending =
        let size = model.variables in
        let normal : IsNormalFormOf old.instance a.problem =
        subst (λ (q : ProblemValue). IsNormalFormOf old.instance q) good.problem good.board.normal in
        record {
          model = subst (λ (q : ProblemValue). IsProblemModel q x) (sym good.problem) tight.model;
          pair = subst (λ (q : ProblemValue). IsModelPair old.instance
              (record { costs = problem_costs q x; model = take old.instance.vars x })) (sym good.problem)
              (tight_model_pair old.instance a.problem y x normal (omega arith) tight);
        }

    pub good_pending : OwnLinesStay → FittingStays → ReformStays → (new : BoardValue) → GoesOn a b →
        IsPut old new (problem_costs a.problem x) x → IsGoodBut b bounds new (pending ++ x ∷ [])
    good_pending own fitting reforms new on put =
        good_but_after a b x cut ids logs own fitting reforms bounds old new pending good on put is_pending

    pub takes_pending : (now : List (List Bool)) → now ≡ pending ++ x ∷ [] → TakesPending a b old.instance y pending now
    takes_pending now is = record {
      model = x;
      tight = tight.value;
      logs = logs_by_cut a b x cut ids logs;
      below = tight_below old.instance a.problem y x tight;
      pending = is;
    }
