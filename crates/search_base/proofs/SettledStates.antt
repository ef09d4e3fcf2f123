-- A pending model is logged once more, by a cut whose literals follow: then it isn't pending any more.
use Rattle.std.proofs.Common.{◌≡◌, inl, inr, Bool, Option, ℕ, List, [], ◌∷◌, ◌++◌, map, take, sym, ◌∙◌, subst, ℤ}
use Rattle.std.specs.List.{All, AllZip, Contains}
use Rattle.std.proofs.lemmas.List.Elements.{All-weaker, Contains-push_cases}
use Rattle.scut_base.specs.Literal.{Literal}
use Rattle.scut_base.proofs.Lists.{All-last, All-prefix, Contains-nil}
use Rattle.front_set.specs.Vector.{IsBelow}
use Rattle.front_set.proofs.FrontLaws.{IsBelow-refl}
use Rattle.instance.specs.Shape.{InstanceValue}
use Rattle.pb_lin.specs.Constraint.{Holds}
use Rattle.pb_lin.specs.Problem.{ProblemValue, IsProblemModel, problem_costs}
use Rattle.proof_laws.specs.State.{StateValue}
use Rattle.proof_laws.specs.Replay.{IsReplay}
use Rattle.proof_laws.specs.declared.line.Line.{Line}
use Rattle.proof_rules.specs.Recording.{Snapshot}
use Rattle.oracle.specs.Solving.{AreEarned, IsWithin}
use Rattle.sum_outputs.specs.Adding.{IsReached, KeptHold}
use Rattle.totalizer.specs.Keeping.{FittingStays, OwnLinesStay, ReformStays}
use Rattle.totalizer.specs.declared.bound.Bound.{Bound}
use Rattle.search_base.specs.Boards.{BoardValue, IsBoard, IsModelPair}
use Rattle.search_base.specs.Cutting.{AreAlike, AreAnswersAt, IsAnswerAt, IsCutOf, IsPut, LogsModel, answered_line, answered_literals}
use Rattle.search_base.specs.Good.{GoesOn, IsGood}
use Rattle.search_base.specs.Logged.{IsCovered, logged}
use Rattle.search_base.specs.Pending.{AddingStaysGoodBut, AreOwnTerms, IsGoodBut, IsPending, LogsByCut}
use Rattle.search_base.specs.CostBounds.{FitBounds}
use Rattle.search_base.specs.declared.objective_bound.ObjectiveBound.{ObjectiveBound}
use Rattle.search_base.proofs.AlikeAnswers.{within_own}
use Rattle.search_base.proofs.BoundRows.{bounds_later}
use Rattle.search_base.proofs.CutClauses.{cut_fails}
use Rattle.search_base.proofs.GoodStates.{LeftAfter}
use Rattle.search_base.proofs.LoggedStates.{HasPending, but_after, by_cut, clause_holds, kept_before, line, logs_costs}
use Rattle.search_base.proofs.PutEntries.{put_board}
use Rattle.search_base.proofs.Taking.{IsLoggedAfter, WasAsked, named_within}
use Rattle.search_base.proofs.TurnLines.{own_law}
use Rattle.search_base.proofs.TurnStates.{ready_after}

-- ---- pending models

-- the one that is logged
pub last_pending : (a : Snapshot) (bounds : List ObjectiveBound) (front : BoardValue) (pending : List (List Bool))
    (x : List Bool) → IsGoodBut a bounds front (pending ++ x ∷ []) → IsPending front x
last_pending a bounds front pending x good = All-last (IsPending front) pending x good.models

-- ---- what is left

module _ (p : ProblemValue) (lines : List Line) (s : StateValue) (x : List Bool) (answers : List Bound)
    (cut : List Literal) (ids : List ℕ) (exact : IsCutOf answers cut) (reached : IsReplay p lines s)
    (zip : AllZip (IsAnswerAt p lines s x (answered_literals answers)) p.costs answers) (pending : List (List Bool))
  where
    -- the kept clause of the new cut is false where the costs of the model are below
    left_less : LeftAfter p lines (HasPending p (pending ++ x ∷ [])) →
        LeftAfter p (lines ++ line p lines s x cut ids ∷ []) (HasPending p pending)
    left_less new t after y rows hold (u, there, below) =
        let kept = kept_before p lines s x cut ids reached t y after hold in
        let fails : IsBelow (problem_costs p x) (problem_costs p y) → ⊥ = λ under.
        cut_fails p lines s x answers cut zip exact y rows kept under
        (clause_holds p lines s x cut ids reached t y after hold) in
        elim (Contains-push_cases (logged p lines) (problem_costs p x) u
        (subst (λ (vs : List (List ℤ)). Contains vs u) (logs_costs p lines s x cut ids) there)) [
          | inl old ↦ (let was = new s reached y rows kept (u, old, below) in
              elim (Contains-push_cases pending x was.0 was.1) [
                | inl other ↦ (was.0, other, was.2)
                | inr same ↦ absurd (fails (subst (λ (z : List Bool). IsBelow (problem_costs p z) (problem_costs p y))
                    (sym same) was.2))
              ])
          | inr same ↦ absurd (fails (subst (λ (v : List ℤ). IsBelow v (problem_costs p y)) (sym same) below))
        ]

-- ---- a state that is good but for the others

module _ (a b : Snapshot) (x : List Bool) (answers : List Bound) (logs : LogsModel a b x answers) where
  pub good_but_less : OwnLinesStay → FittingStays → ReformStays → (bounds : List ObjectiveBound)
      (old new : BoardValue) (pending : List (List Bool)) → IsGoodBut a bounds old (pending ++ x ∷ []) →
      GoesOn a b → AreAnswersAt a.problem a.lines x answers → IsPut old new (problem_costs a.problem x) x →
      IsGoodBut b bounds new pending
  good_but_less own fitting reforms bounds old new pending good on are put =
      let p = a.problem in
      let s = logs.before in
      let cut = logs.is.cut in
      let ids = map answered_line answers in
      let by : LogsByCut a b x cut ids = by_cut a b x answers logs in
      let pair : IsModelPair old.instance (record { costs = problem_costs p x; model = take old.instance.vars x }) =
      subst (λ (q : ProblemValue). IsModelPair old.instance
      (record { costs = problem_costs q x; model = take old.instance.vars x })) good.problem
      (last_pending a bounds old pending x good).pair in
      but_after a b x cut ids by own fitting reforms bounds old new (pending ++ x ∷ []) pending good on put pair
      (All-prefix (IsPending old) pending x good.models)
      (subst (λ (q : ProblemValue). LeftAfter q b.lines (HasPending q pending)) (sym on.problem)
      (subst (λ (ls : List Line). LeftAfter p ls (HasPending p pending)) (sym by.lines)
      (left_less p a.lines s x answers cut ids logs.is.exact logs.stood (are s logs.stood) pending good.new)))

-- What is named for its costs covers them, and none of its literals are opposite: it makes them true itself, since no row
-- costs more than its reform where that is in its own terms.
pub settled_serve : (a m : Snapshot) (s : StateValue) (before : List ObjectiveBound) (x : List Bool)
    (answers named : List Bound) → IsReached a s → AreOwnTerms before → FitBounds a before →
    WasAsked a m before x answers named → AreAnswersAt m.problem m.lines x named × AreAlike (answered_literals named)
settled_serve a m s before x answers named reached own fit was =
    named_within a m s before x x answers named reached (within_own a s before x own) fit
    (IsBelow-refl (problem_costs a.problem x)) was

-- its costs were asked for, it was logged, and put onto the board
pub good_settled : AddingStaysGoodBut → OwnLinesStay → FittingStays → ReformStays → (a m b : Snapshot)
    (before asked : List ObjectiveBound) (old new : BoardValue) (x : List Bool) (answers : List Bound)
    (pending : List (List Bool)) → IsLoggedAfter a m b asked x answers →
    IsPut old new (problem_costs a.problem x) x → IsGoodBut a before old (pending ++ x ∷ []) →
    IsGoodBut b asked new pending
good_settled adding own fitting reforms a m b before asked old new x answers pending log put good =
    let middle : IsGoodBut m asked old (pending ++ x ∷ []) =
    adding.bounds a m before asked old (pending ++ x ∷ []) good log.on log.whole log.fits in
    good_but_less m b x answers log.logs own fitting reforms asked old new pending middle log.goes_on log.answered
    (subst (λ (q : ProblemValue). IsPut old new (problem_costs q x) x) (sym log.on.problem) put)
