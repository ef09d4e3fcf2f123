-- A line that names a clause: one that is stored, or one that is recorded now.
use Rattle.std.proofs.Common.{◌≡◌, ℕ, ◌<◌, ◌≤◌, AllPairs, Bool, true, false, Option, None, Some, List, [], ◌∷◌, ◌++◌, All, refl, sym, ap, ◌∙◌, subst}
use Rattle.std.specs.FinMap.{get}
use Rattle.std.proofs.lemmas.List.Elements.{All-map}
use Rattle.scut_base.specs.Literal.{Literal}
use Rattle.pb_lin.specs.Constraint.{ConstraintValue}
use Rattle.pb_lin.specs.Problem.{ProblemValue}
use Rattle.hint_rup.specs.declared.hint.Hint.{Hint}
use Rattle.proof_laws.specs.State.{StateValue, IsState}
use Rattle.proof_laws.specs.Steps.{clause, with_line}
use Rattle.proof_laws.specs.Refusal.{is_clause}
use Rattle.proof_laws.specs.Legal.{IsNext}
use Rattle.proof_laws.specs.Replay.{IsReplay}
use Rattle.proof_laws.specs.WellFormed.{IsWellFormed}
use Rattle.proof_laws.specs.Earned.{IsEarned}
use Rattle.proof_laws.specs.declared.line.Line.{Line}
use Rattle.proof_laws.specs.declared.line.Line.TheVariants.{Rup}
use Rattle.proof_laws.proofs.EarnedLines.{line_keeps_earned}
use Rattle.proof_laws.proofs.Replays.{replay_before, replay_once}
use Rattle.proof_rules.specs.Recording.{IsNextId, KeepsRecorder, MayBeAdded, Snapshot}
use Rattle.oracle.specs.Solving.{AddsSearchLines, IsWithin, Reaches}
use Rattle.clause_prop.specs.Steps.{TrailValue}
use Rattle.cdcl_trail.specs.Learning.{AreHints}
use Rattle.cdcl_trail.proofs.Stores.{get_new}
use Rattle.cdcl_laws.proofs.Hinted.{formed_law, implied_law as legal_law}
use Rattle.cdcl_laws.proofs.SearchLines.{implied_law}
use Rattle.cdcl_state.specs.Searching.{SearchValue}
use Rattle.cdcl_core.specs.Work.{SolverValue, IsDone, IsWorking, StepsFrom}
use Rattle.cdcl_core.proofs.HeldLines.{clause_test, held_added}
use Rattle.cdcl_core.proofs.ImpliedLines.{one_implied}

pub clause_tested : (lits : List Literal) → is_clause (clause lits) ≡ true
clause_tested lits = clause_test (clause lits) true ((λ same. (All-map (λ (t : Literal × ℕ). t.1 ≡ 1) (λ (l : Literal). (l, 1)) lits (λ k d within. refl), refl)), (λ is. refl)) refl

pub trail_inside : {R : Type 0} (P : TrailValue → Type 0) (v w : SolverValue R) → v ≡ w → P w.search.trail → P v.search.trail
trail_inside {R} P v w same holds = subst (λ (u : SolverValue R). P u.search.trail) (sym same) holds

-- a stored line is live
pub stored_reached : {R : Type 0} (seen : R → Snapshot) (v w : SolverValue R) (id : ℕ) (c : ConstraintValue) → v ≡ w → IsWorking seen w → get v.search.store id ≡ Some c
    → Reaches (seen v.recorder).problem (seen v.recorder).lines (λ s. get s.live id ≡ Some c)
stored_reached seen v w id c same working there t replay =
    let held = (subst (IsWorking seen) (sym same) working).taken.held in
    subst (λ (u : StateValue). get u.live id ≡ Some c) (replay_once (seen v.recorder).problem (seen v.recorder).lines held.state t held.replay replay) (held.stored.live id c there).1

-- ---- before an implied clause

-- a clause over the variables of a search, and hints that prove it
pub record IsProvable (search : SearchValue) (lits : List Literal) (hints : List Hint) : Type 0 where
  pub rising : AllPairs (λ l m. l.var < m.var) lits
  pub within : All (λ l. (0 < l.var) × (l.var ≤ search.trail.vars)) lits
  pub given : AreHints search.store search.trail.vars lits hints

module _ {R : Type 0} (seen : R → Snapshot) (v w : SolverValue R) (lits : List Literal) (hints : List Hint) (same : v ≡ w) (working : IsWorking seen w) (provable : IsProvable w.search lits hints) where
  abbrev p : ProblemValue
  p = (seen v.recorder).problem

  abbrev lines : List Line
  lines = (seen v.recorder).lines

  work : IsWorking seen v
  work = subst (IsWorking seen) (sym same) working

  can : IsProvable v.search lits hints
  can = subst (λ (s : SolverValue R). IsProvable s.search lits hints) (sym same) provable

  within_state : All (λ l. (0 < l.var) × (l.var ≤ work.taken.held.state.vars)) lits
  within_state = subst (λ (n : ℕ). All (λ l. (0 < l.var) × (l.var ≤ n)) lits) work.taken.vars can.within

  hints_state : AreHints v.search.store work.taken.held.state.vars lits hints
  hints_state = subst (λ (n : ℕ). AreHints v.search.store n lits hints) work.taken.vars can.given

  pub implied_formed : IsWellFormed (Rup (clause lits) hints)
  implied_formed = let held = work.taken.held in
      formed_law p held.state v.next v.search.store lits hints held.is held.stored can.rising within_state hints_state

  pub implied_legal : MayBeAdded p lines (Rup (clause lits) hints)
  implied_legal = let held = work.taken.held in
      legal_law p lines held.state v.next v.search.store lits hints held.is held.replay work.taken.unended held.stored can.rising within_state hints_state

  -- ---- after an implied clause

  pub only_implied : (new : List Line) (P : ConstraintValue → Type 0) → new ≡ lines ++ Rup (clause lits) hints ∷ [] → P (clause lits)
      → (first after : List Line) (goal : ConstraintValue) (others : List Hint) → new ≡ (seen w.recorder).lines ++ (first ++ (Rup goal others ∷ after)) → P goal
  only_implied new P added holds first after goal others is =
      let from_here : new ≡ lines ++ (first ++ (Rup goal others ∷ after)) = subst (λ (s : SolverValue R). new ≡ (seen s.recorder).lines ++ (first ++ (Rup goal others ∷ after))) (sym same) is in
      subst P (sym (one_implied lines (clause lits) goal hints others first after (sym added ∙ from_here))) holds

  module _ (now : Snapshot) (kept : KeepsRecorder (seen v.recorder) now) (added : now.lines ≡ lines ++ Rup (clause lits) hints ∷ []) where
    step_to : (t : StateValue) → IsReplay p now.lines t → IsNext p work.taken.held.state (Rup (clause lits) hints) t
    step_to t replay = replay_before p lines (Rup (clause lits) hints) work.taken.held.state t work.taken.held.replay (subst (λ (ls : List Line). IsReplay p ls t) added replay)

    here : (t : StateValue) → IsReplay now.problem now.lines t → IsReplay p now.lines t
    here t replay = subst (λ (r : ProblemValue). IsReplay r now.lines t) kept.problem replay

    pub named_implied : (id : ℕ) → IsNextId p lines id → Reaches now.problem now.lines (λ t. get t.live id ≡ Some (clause lits))
    named_implied id next_id t replay =
        let s = work.taken.held.state in
        subst (λ (u : StateValue). get u.live id ≡ Some (clause lits)) (sym (step_to t (here t replay)).makes)
        (ap (get (with_line s (clause lits)).live) (next_id s work.taken.held.replay) ∙ get_new s.live s.next_id (clause lits))

    within_implied : (limit : Option ℕ) → IsWithin limit p lines → IsWithin limit p now.lines
    within_implied None within = tt
    within_implied (Some limit) within = λ t replay.
        subst (λ (u : StateValue). u.learned ≤ limit) (sym (step_to t replay).makes) (within work.taken.held.state work.taken.held.replay)

  module _ (b : SolverValue R) (kept : KeepsRecorder (seen v.recorder) (seen b.recorder)) (added : (seen b.recorder).lines ≡ lines ++ Rup (clause lits) hints ∷ []) where
    pub steps_implied : b.broken ≡ v.broken → b.limit ≡ v.limit → StepsFrom seen w b
    steps_implied broken limit = subst (λ (s : SolverValue R). StepsFrom seen s b) same (record {
      begun = broken ∙ work.begun;
      limit = limit;
      kept = kept;
      within = within_implied (seen b.recorder) kept added v.limit work.within;
      adds = subst (AddsSearchLines p lines) (sym added) (implied_law p lines (clause lits) hints (clause_tested lits));
    })

    pub done_implied : (t : StateValue) → IsReplay (seen b.recorder).problem (seen b.recorder).lines t → IsState t → (seen b.recorder).broken ≡ false
        → b.search ≡ v.search → b.next ≡ v.next → b.rows ≡ v.rows → b.ledger ≡ v.ledger → IsDone seen b
    done_implied t replay is whole search next rows ledger =
        let held = work.taken.held in
        let earned = line_keeps_earned p lines work.earned.0 held.state t (Rup (clause lits) hints) work.earned.1 held.replay (step_to (seen b.recorder) kept added t (here (seen b.recorder) kept added t replay)) refl in
        record {
          whole = whole;
          earned = (
            work.earned.0,
            subst (λ (r : ProblemValue). IsEarned r (seen b.recorder).lines work.earned.0) (sym kept.problem)
                (subst (λ (ls : List Line). IsEarned p ls work.earned.0) (sym added) earned),
          );
          held = held_added seen v b (Rup (clause lits) hints) t held kept.problem added replay is next rows
              (ap (λ (s : SearchValue). s.store) search) (ap (λ (s : SearchValue). s.trail.vars) search) ledger;
        }
