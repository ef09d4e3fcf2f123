-- A good state stays good after a model is logged and put onto the board.
use Rattle.std.proofs.Common.{◌≡◌, inl, inr, ℕ, Bool, Option, None, Some, List, [], ◌∷◌, ◌++◌, map, take, refl, sym, ap, ◌∙◌, subst, arith, ℤ}
use Rattle.std.specs.FinMap.{get}
use Rattle.std.specs.List.{All, Contains}
use Rattle.std.proofs.lemmas.List.Elements.{All-nil, All-push, All-weaker, Contains-append_left, Contains-push, Contains-push_cases}
use Rattle.scut_base.specs.Literal.{Literal}
use Rattle.front_set.specs.Vector.{IsBelow}
use Rattle.pb_lin.specs.Constraint.{Holds}
use Rattle.instance.specs.Shape.{InstanceValue}
use Rattle.pb_lin.specs.Problem.{ProblemValue, IsProblemModel, problem_costs}
use Rattle.proof_laws.specs.State.{StateValue}
use Rattle.proof_laws.specs.Steps.{clause}
use Rattle.proof_laws.specs.Legal.{IsNext}
use Rattle.proof_laws.specs.Refusal.{literals_at}
use Rattle.proof_laws.specs.Replay.{IsReplay}
use Rattle.proof_laws.specs.declared.line.Line.{Line}
use Rattle.proof_laws.specs.declared.line.Line.TheVariants.{Sol}
use Rattle.proof_laws.proofs.EarnedLines.{line_keeps_earned}
use Rattle.proof_laws.proofs.ModelLiterals.{assignment_again}
use Rattle.proof_laws.proofs.Replays.{replay_before}
use Rattle.proof_rules.specs.Recording.{Snapshot}
use Rattle.oracle.specs.Solving.{AreEarned, IsWithin}
use Rattle.sum_outputs.specs.Adding.{IsLater, KeptHold}
use Rattle.sum_outputs.proofs.LaterStates.{new_not_learned, own_later}
use Rattle.totalizer.specs.Keeping.{FittingStays, OwnLinesStay, ReformStays}
use Rattle.totalizer.specs.declared.bound.Bound.{Bound}
use Rattle.search_base.specs.Logged.{IsCovered, Logs, logged}
use Rattle.search_base.specs.Boards.{BoardValue, IsBoard, IsModelPair}
use Rattle.search_base.specs.Cutting.{AreAnswersAt, IsPut, LogsModel, answered_line}
use Rattle.search_base.specs.Good.{AllIsNew, GoesOn, IsGood}
use Rattle.search_base.specs.Pending.{AllIsNewBut, IsGoodBut, IsPending, LogsByCut}
use Rattle.search_base.specs.declared.objective_bound.ObjectiveBound.{ObjectiveBound}
use Rattle.search_base.proofs.BoundRows.{bounds_later}
use Rattle.search_base.proofs.CutClauses.{clause_tested, cut_fails}
use Rattle.search_base.proofs.GoodStates.{LeftAfter}
use Rattle.search_base.proofs.LoggedVectors.{logged_append}
use Rattle.search_base.proofs.PutEntries.{put_board}
use Rattle.sum_outputs.proofs.PolLines.{put_live}
use Rattle.search_base.proofs.TurnLines.{own_law}
use Rattle.search_base.proofs.TurnStates.{ready_after}

-- ---- one line more

module _ (p : ProblemValue) (lines : List Line) (s : StateValue) (x : List Bool) (cut : List Literal) (ids : List ℕ) where
  abbrev pub line : Line
  line = Sol (literals_at 1 x) cut ids

  -- the costs of the model are logged
  pub logs_costs : Logs p lines (lines ++ line ∷ []) (problem_costs p x)
  logs_costs = logged_append p lines (line ∷ [])
      ∙ ap (λ (a : List Bool). logged p lines ++ problem_costs p a ∷ []) (assignment_again 1 x)

  module _ (reached : IsReplay p lines s) where
    made_of : (t : StateValue) → IsReplay p (lines ++ line ∷ []) t → IsNext p s line t
    made_of t after = replay_before p lines line s t reached after

    pub kept_before : (t : StateValue) (y : List Bool) → IsReplay p (lines ++ line ∷ []) t →
        KeptHold p (lines ++ line ∷ []) t y → KeptHold p lines s y
    kept_before t y after hold id c kept =
        let later : IsLater p lines s (lines ++ line ∷ []) t =
        own_later p lines line s t reached (made_of t after) refl in
        let own = later.own id c (kept.0, kept.2) in
        hold id c (own.0, kept.1, own.1)

    pub clause_holds : (t : StateValue) (y : List Bool) → IsReplay p (lines ++ line ∷ []) t →
        KeptHold p (lines ++ line ∷ []) t y → Holds y (clause cut)
    clause_holds t y after hold =
        let makes = (made_of t after).makes in
        let live : get t.live s.next_id ≡ Some (clause cut) = ap (λ (u : StateValue). get u.live s.next_id) makes
        ∙ put_live s.live s.next_id (clause cut) in
        hold s.next_id (clause cut) (live, clause_tested cut, new_not_learned p lines line s reached refl)

    -- what is left and isn't new was left, or is above the model's costs
    left_still : (P : List Bool → Type 0) → LeftAfter p lines P →
        ((y : List Bool) → All (Holds y) p.rows → KeptHold p lines s y → Holds y (clause cut)
        → IsBelow (problem_costs p x) (problem_costs p y) → P y) → LeftAfter p (lines ++ line ∷ []) P
    left_still P left above t after y rows hold (u, there, below) =
        let kept = kept_before t y after hold in
        elim (Contains-push_cases (logged p lines) (problem_costs p x) u
        (subst (λ (vs : List (List ℤ)). Contains vs u) logs_costs there)) [
          | inl old ↦ left s reached y rows kept (u, old, below)
          | inr same ↦ above y rows kept (clause_holds t y after hold)
              (subst (λ (v : List ℤ). IsBelow v (problem_costs p y)) (sym same) below)
        ]

    earned_still : (t : StateValue) → IsReplay p (lines ++ line ∷ []) t → AreEarned p lines →
        AreEarned p (lines ++ line ∷ [])
    earned_still t after (n, earned) = (n, line_keeps_earned p lines n s t line earned reached (made_of t after) refl)

    within_still : (limit : Option ℕ) → IsWithin limit p lines → IsWithin limit p (lines ++ line ∷ [])
    within_still None within = tt
    within_still (Some limit) within = λ t after.
        let fewer = within s reached in
        let same : t.learned ≡ s.learned = ap (λ (u : StateValue). u.learned) (made_of t after).makes in
        omega arith

-- ---- a state that is good but for some models

-- one of the pending models is below it
abbrev pub HasPending : ProblemValue → List (List Bool) → List Bool → Type 0
HasPending p pending x = (y : List Bool) × Contains pending y × IsBelow (problem_costs p y) (problem_costs p x)

pending_stay : (old new : BoardValue) (pending : List (List Bool)) → new.problem ≡ old.problem →
    new.instance ≡ old.instance → All (IsPending old) pending → All (IsPending new) pending
pending_stay old new pending problem instance all =
    All-weaker (IsPending old) (IsPending new)
    (λ (x : List Bool) is. record {
      model = subst (λ (q : ProblemValue). IsProblemModel q x) (sym problem) is.model;
      pair = subst (λ (i : InstanceValue). IsModelPair i
          (record { costs = problem_costs new.problem x; model = take i.vars x })) (sym instance)
          (subst (λ (q : ProblemValue). IsModelPair old.instance
          (record { costs = problem_costs q x; model = take old.instance.vars x })) (sym problem) is.pair);
    }) pending all

pub good_but_none : (a : Snapshot) (bounds : List ObjectiveBound) (front : BoardValue) → IsGood a bounds front →
    IsGoodBut a bounds front []
good_but_none a bounds front good = record {
  ready = good.ready;
  problem = good.problem;
  board = good.board;
  bounds = good.bounds;
  earned = good.earned;
  within = good.within;
  models = All-nil (IsPending front);
  new = λ s reached x rows hold covered. absurd (good.new s reached x rows hold covered);
}

module _ (a b : Snapshot) (x : List Bool) (cut : List Literal) (ids : List ℕ) (logs : LogsByCut a b x cut ids) where
  pub logs_by_cut : Logs a.problem a.lines b.lines (problem_costs a.problem x)
  logs_by_cut = ap (logged a.problem) logs.lines ∙ logs_costs a.problem a.lines logs.before x cut ids

  left_after : (P : List Bool → Type 0) → b.problem ≡ a.problem → LeftAfter a.problem a.lines P →
      ((y : List Bool) → All (Holds y) a.problem.rows → KeptHold a.problem a.lines logs.before y → Holds y (clause cut)
      → IsBelow (problem_costs a.problem x) (problem_costs a.problem y) → P y) → LeftAfter b.problem b.lines P
  left_after P same left above =
      subst (λ (q : ProblemValue). LeftAfter q b.lines P) (sym same)
      (subst (λ (ls : List Line). LeftAfter a.problem ls P) (sym logs.lines)
      (left_still a.problem a.lines logs.before x cut ids logs.stood P left above))

  -- such a state comes after it, but for models of which what is left and isn't new has one below it
  pub but_after : OwnLinesStay → FittingStays → ReformStays → (bounds : List ObjectiveBound) (old new : BoardValue)
      (pending now : List (List Bool)) → IsGoodBut a bounds old pending → GoesOn a b →
      IsPut old new (problem_costs a.problem x) x →
      IsModelPair old.instance (record { costs = problem_costs a.problem x; model = take old.instance.vars x }) →
      All (IsPending old) now → AllIsNewBut b now → IsGoodBut b bounds new now
  but_after own fitting reforms bounds old new pending now good on put pair models left =
      let p = a.problem in
      let s = logs.before in
      let after : IsReplay p (a.lines ++ line p a.lines s x cut ids ∷ []) logs.state =
      subst (λ (ls : List Line). IsReplay p ls logs.state) logs.lines
      (subst (λ (q : ProblemValue). IsReplay q b.lines logs.state) on.problem logs.reached) in
      record {
        ready = ready_after a b logs.state good.ready on.lines on.problem logs.whole logs.reached;
        problem = put.problem ∙ good.problem ∙ sym on.problem;
        board = subst (λ (q : ProblemValue). IsBoard new (logged q b.lines)) (sym on.problem)
            (subst (λ (vs : List (List ℤ)). IsBoard new vs) (sym logs_by_cut)
            (put_board old new (problem_costs p x) x (logged p a.lines) put pair good.board));
        bounds = bounds_later own fitting reforms a b s bounds on.problem (own_law p a.lines b.lines on.lines) logs.stood
            good.bounds;
        earned = subst (λ (q : ProblemValue). AreEarned q b.lines) (sym on.problem)
            (subst (λ (ls : List Line). AreEarned p ls) (sym logs.lines)
            (earned_still p a.lines s x cut ids logs.stood logs.state after good.earned));
        within = subst (λ (most : Option ℕ). IsWithin most b.problem b.lines) (sym on.limit)
            (subst (λ (q : ProblemValue). IsWithin a.limit q b.lines) (sym on.problem)
            (subst (λ (ls : List Line). IsWithin a.limit p ls) (sym logs.lines)
            (within_still p a.lines s x cut ids logs.stood a.limit good.within)));
        models = pending_stay old new now put.problem put.instance models;
        new = left;
      }

  -- the model is pending, whatever the cut
  pub good_but_after : OwnLinesStay → FittingStays → ReformStays → (bounds : List ObjectiveBound) (old new : BoardValue)
      (pending : List (List Bool)) → IsGoodBut a bounds old pending → GoesOn a b →
      IsPut old new (problem_costs a.problem x) x → IsPending old x → IsGoodBut b bounds new (pending ++ x ∷ [])
  good_but_after own fitting reforms bounds old new pending good on put is =
      let p = a.problem in
      let pair = subst (λ (q : ProblemValue). IsModelPair old.instance
      (record { costs = problem_costs q x; model = take old.instance.vars x })) good.problem is.pair in
      let left : LeftAfter b.problem b.lines (HasPending p (pending ++ x ∷ [])) =
      left_after (HasPending p (pending ++ x ∷ [])) on.problem
      (λ s reached y rows hold covered. let one = good.new s reached y rows hold covered in
      (one.0, Contains-append_left pending (x ∷ []) one.0 one.1, one.2))
      (λ y rows hold clause below. (x, Contains-push pending x, below)) in
      but_after own fitting reforms bounds old new pending (pending ++ x ∷ []) good on put pair
      (All-push (IsPending old) pending x good.models is)
      (λ s reached y rows hold covered. let one = left s reached y rows hold covered in (
        one.0,
        one.1,
        subst (λ (q : ProblemValue). IsBelow (problem_costs q one.0) (problem_costs q y)) (sym on.problem)
            one.2,
      ))

-- ---- a good state

module _ (a b : Snapshot) (x : List Bool) (answers : List Bound) (logs : LogsModel a b x answers) where
  abbrev pub by_cut : LogsByCut a b x logs.is.cut (map answered_line answers)
  by_cut = record {
    before = logs.before;
    stood = logs.stood;
    lines = logs.lines ∙ ap (λ (l : Line). a.lines ++ l ∷ []) logs.is.is;
    whole = logs.whole;
    state = logs.state;
    reached = logs.reached;
  }

  pub logs_model : Logs a.problem a.lines b.lines (problem_costs a.problem x)
  logs_model = logs_by_cut a b x logs.is.cut (map answered_line answers) by_cut

  pub good_after : OwnLinesStay → FittingStays → ReformStays → (bounds : List ObjectiveBound) (old new : BoardValue) → IsGood a bounds old →
      GoesOn a b → AreAnswersAt a.problem a.lines x answers
      → IsPut old new (problem_costs a.problem x) x →
      IsModelPair old.instance (record { costs = problem_costs a.problem x; model = take old.instance.vars x }) →
      IsGood b bounds new
  good_after own fitting reforms bounds old new good on are put pair =
      let zip = are logs.before logs.stood in
      let left : AllIsNew b = left_after a b x logs.is.cut (map answered_line answers) by_cut (λ y. ⊥) on.problem good.new
      (λ y rows hold holds below. cut_fails a.problem a.lines logs.before x answers logs.is.cut zip logs.is.exact y rows
      hold below holds) in
      let but : IsGoodBut b bounds new [] = but_after a b x logs.is.cut (map answered_line answers) by_cut own fitting
      reforms bounds old new [] [] (good_but_none a bounds old good) on put pair (All-nil (IsPending old))
      (λ s reached y rows hold covered. absurd (left s reached y rows hold covered)) in
      record {
        ready = but.ready;
        problem = but.problem;
        board = but.board;
        bounds = but.bounds;
        earned = but.earned;
        within = but.within;
        new = left;
      }
