-- Trails on which assumptions were decided first.
use Rattle.std.proofs.Common.{◌≡◌, ◌≢◌, ◌⊎◌, inl, inr, ⊎_elim, ℕ, ◌<◌, ◌≤◌, Bool, true, false, not, Option, None, Some, List, [], ◌∷◌, length, get_or, All, refl, arith, sym, ap, ◌∙◌, subst}
use Rattle.std.specs.Prelude.{Contains, is_some}
use Rattle.std.specs.FinMap.{get}
use Rattle.std.proofs.lemmas.Bool.{cases_lt, cases_order}
use Rattle.std.proofs.lemmas.List.{get_or_default}
use Rattle.std.proofs.lemmas.List.Elements.{All-contains, All-weaker}
use Rattle.scut_base.specs.Literal.{Literal}
use Rattle.scut_base.specs.Assignment.{lit_true, partial_truth}
use Rattle.pb_lin.specs.Constraint.{ConstraintValue, Holds, opposite}
use Rattle.pb_lin.specs.LineMap.{LineMap}
use Rattle.pb_lin.specs.Problem.{ProblemValue}
use Rattle.proof_laws.specs.State.{StateValue, IsState, Fits}
use Rattle.proof_laws.specs.declared.line.Line.{Line}
use Rattle.proof_laws.proofs.Replays.{replay_once}
use Rattle.clause_prop.specs.Steps.{TrailValue, cut, partial, with_step}
use Rattle.clause_prop.specs.declared.step.Step.{Step}
use Rattle.oracle.specs.Solving.{AreAssumptions, IsCore, IsSolution, Reaches}
use Rattle.cdcl_trail.specs.SearchTrail.{IsOfSteps, IsSearchTrail, IsStepAt, decision}
use Rattle.cdcl_trail.specs.Rank.{rank}
use Rattle.cdcl_trail.proofs.Moves.{cut_of_longer}
use Rattle.cdcl_trail.proofs.Places.{at_push}
use Rattle.cdcl_trail.proofs.Pushes.{cut_whole}
use Rattle.cdcl_trail.proofs.Ranks.{push_raises}
use Rattle.cdcl_trail.proofs.Truths.{false_before, open_before}
use Rattle.cdcl_state.specs.Analysis.{IsDecided, IsForcedFalse}
use Rattle.cdcl_state.proofs.TrailSteps.{IsBefore, false_before as found_false, whole_cut}
use Rattle.cdcl_laws.specs.StoredLines.{IsStored}
use Rattle.cdcl_state.specs.Searching.{SearchValue}
use Rattle.cdcl_core.specs.Ledgers.{left}
use Rattle.cdcl_core.specs.Work.{SolverValue, IsLed, IsOn, IsWorking}
use Rattle.cdcl_core.proofs.Working.{learns_unchanged, with_search, working_searched}
use Rattle.proof_rules.specs.Recording.{Snapshot}

-- all assumptions are true
abbrev pub AreMet : TrailValue → List Literal → Type 0
AreMet t assumptions = All (λ l. partial_truth (partial t) l ≡ Some true) assumptions

not_itself : (b : Bool) → b ≡ not b → ⊥
not_itself true e = cc
not_itself false e = cc

-- a literal and its opposite aren't both assumed
pub not_both : (n : ℕ) (assumptions : List Literal) (l m : Literal) → AreAssumptions n assumptions → Contains assumptions l → Contains assumptions m → m ≡ opposite l → ⊥
not_both n assumptions l m are (i, in_l, at_l) (j, in_m, at_m) is =
    let read : get_or assumptions j l ≡ m = get_or_default assumptions j l m in_m ∙ at_m in
    elim (cases_order i j) [
      | inl same ↦ not_itself l.neg (ap (λ (x : Literal). x.neg) (sym at_l ∙ ap (λ (k : ℕ). get_or assumptions k l) same ∙ read ∙ is))
      | inr apart ↦ elim apart [
        | inl before ↦ are.apart i j l before in_m (ap (λ (x : Literal). x.var) at_l ∙ ap (λ (x : Literal). x.var) (sym (read ∙ is)))
        | inr after ↦ are.apart j i l after in_l (ap (λ (x : Literal). x.var) (read ∙ is) ∙ ap (λ (x : Literal). x.var) (sym at_l))
      ]
    ]

-- what is neither open nor true is false
left_false : (o : Option Bool) (is_open : Bool) → is_some o ≡ not is_open → is_open ≡ false → o ≢ Some true → o ≡ Some false
left_false None is_open told closed untrue = cc
left_false (Some true) is_open told closed untrue = absurd (untrue refl)
left_false (Some false) is_open told closed untrue = refl

module _ (store : LineMap) (t : TrailValue) (assumptions : List Literal) (l : Literal) (search : IsSearchTrail store t) (are : AreAssumptions t.vars assumptions) (led : IsLed assumptions t) (assumed : Contains assumptions l) where
  -- where a step makes an assumption false, not all were true before any place
  not_met : (p q : ℕ) (s : Step) → IsStepAt t q s → s.lit ≡ opposite l → AreMet (cut t p) assumptions → ⊥
  not_met p q s at is met =
      let truth : partial_truth (partial (cut t p)) l ≡ Some true = All-contains (λ (m : Literal). partial_truth (partial (cut t p)) m ≡ Some true) assumptions l met assumed in
      elim (cases_lt q p) [
        | inl before ↦ (let falsity = false_before t p q s l search.steps at before is in cc)
        | inr past ↦ (let none = open_before t p q s l search.steps at past (ap (λ (m : Literal). m.var) (sym is)) in cc)
      ]

  -- then each decision is an assumption
  pub decided_assumed : (q : ℕ) (s : Step) (m : Literal) → IsStepAt t q s → s.lit ≡ opposite l → IsDecided t m → Contains assumptions m
  decided_assumed q s m at is decided = ⊎_elim
      (λ (has : Contains assumptions decided.1.lit). subst (Contains assumptions) decided.4 has)
      (λ (met : AreMet (cut t decided.0) assumptions). absurd (not_met decided.0 q s at is met))
      (led decided.0 decided.1 decided.2 decided.3)

  -- a line forces an assumption that is false to be so
  forced_by : IsBefore t (length t.steps) (opposite l) → IsForcedFalse t l
  forced_by found = record {
    place = found.place;
    step = found.step;
    there = found.there;
    is = found.is;
    has = λ zero_reason. ⊎_elim
        (λ (has : Contains assumptions found.step.lit). not_both t.vars assumptions l found.step.lit are assumed has found.is)
        (λ (met : AreMet (cut t found.place) assumptions). not_met found.place found.place found.step found.there found.is met)
        (led found.place found.step found.there zero_reason);
  }

  forced_false : partial_truth (partial t) l ≡ Some false → IsForcedFalse t l
  forced_false falsity =
      let positive = (All-contains (λ (m : Literal). (0 < m.var) × (m.var ≤ t.vars)) assumptions l are.variables assumed).0 in
      forced_by (found_false t (length t.steps) l search.steps positive (ap (λ (p : List (Option Bool)). partial_truth p l) (whole_cut t) ∙ falsity))

  -- the same of an assumption that was read, and is neither open nor true
  pub read_false : (o : Option Bool) (is_open : Bool) → o ≡ partial_truth (partial t) l → is_some o ≡ not is_open → is_open ≡ false → partial_truth (partial t) l ≢ Some true → IsForcedFalse t l
  read_false o is_open read told closed untrue = forced_false (sym read ∙ left_false o is_open told closed (λ truth. untrue (sym read ∙ truth)))

  pub among_assumed : (lits : List Literal) → IsForcedFalse t l → All (λ m. (m ≡ l) ⊎ IsDecided t m) lits → All (Contains assumptions) lits
  among_assumed lits falsified all = All-weaker (λ (m : Literal). (m ≡ l) ⊎ IsDecided t m) (Contains assumptions) each lits all
    where
      each : (m : Literal) → (m ≡ l) ⊎ IsDecided t m → Contains assumptions m
      each m (inl same) = subst (Contains assumptions) (sym same) assumed
      each m (inr decided) = decided_assumed falsified.place falsified.step m falsified.there falsified.is decided

-- ---- a decision more

pub led_on : (t : TrailValue) (assumptions : List Literal) (l : Literal) → IsLed assumptions t → Contains assumptions l ⊎ AreMet t assumptions → IsLed assumptions (with_step t (decision t l))
led_on t assumptions l led may q s at zero_reason = elim (at_push t.steps (decision t l) q s at) [
  | inl old ↦ ⊎_elim
      (λ (has : Contains assumptions s.lit). inl has)
      (λ (met : AreMet (cut t q) assumptions). inr (subst (λ (u : TrailValue). AreMet u assumptions) (cut_of_longer t (decision t l ∷ []) q (omega (arith, old.0))) met))
      (led q s old.1 zero_reason)
  | inr new ↦ ⊎_elim
      (λ (has : Contains assumptions l). inl (subst (λ (x : Step). Contains assumptions x.lit) new.1 has))
      (λ (met : AreMet t assumptions). inr (subst (λ (u : TrailValue). AreMet u assumptions) (whole q new.0) met))
      may
]
  where
    whole : (q : ℕ) → q ≡ length t.steps → t ≡ cut (with_step t (decision t l)) q
    whole q is = sym (cut_whole t) ∙ ap (cut t) (sym is) ∙ cut_of_longer t (decision t l ∷ []) q (omega (arith, is))

-- the parts of a search that has decided a literal
pub decided_parts : (search now : SearchValue) (l : Literal) → now ≡ record { store = search.store; trail = with_step search.trail (decision search.trail l) } → (now.store ≡ search.store) × (now.trail ≡ with_step search.trail (decision search.trail l))
decided_parts search now l is = (ap (λ (s : SearchValue). s.store) is, ap (λ (s : SearchValue). s.trail) is)

-- the search goes on from a decision
pub goes_on : {R : Type 0} (seen : R → Snapshot) (v w b : SolverValue R) (assumptions : List Literal) (l : Literal) → v ≡ w → b ≡ with_search seen v b.search → IsWorking seen w → IsLed assumptions w.search.trail
    → b.search.store ≡ v.search.store → b.search.trail ≡ with_step v.search.trail (decision v.search.trail l) → Contains assumptions l ⊎ AreMet v.search.trail assumptions → IsOn seen assumptions w b
goes_on {R} seen v w b assumptions l same is working led store trail may =
    let vars : b.search.trail.vars ≡ v.search.trail.vars = ap (λ (t : TrailValue). t.vars) trail in
    let led_here : IsLed assumptions v.search.trail = subst (λ (s : SolverValue R). IsLed assumptions s.search.trail) (sym same) led in
    subst (λ (s : SolverValue R). IsOn seen assumptions s b) same (record {
      working = working_searched seen v w b same is store vars working;
      led = subst (IsLed assumptions) (sym trail) (led_on v.search.trail assumptions l led_here may);
      learns = learns_unchanged seen v v (seen b.recorder).lines refl (ap (λ (s : SolverValue R). (seen s.recorder).lines) is);
      nearer = inr (
        ap (λ (s : SolverValue R). left s.ledger.reductions) is,
        subst (λ (t : TrailValue). rank v.search.trail < rank t) (sym trail) (push_raises v.search.trail (decision v.search.trail l)),
      );
      vars = vars;
    })

-- ---- answers

-- the literals of a core are assumptions
pub core_among : (p : ProblemValue) (lines : List Line) (assumptions lits : List Literal) (id : ℕ) → All (Contains assumptions) lits → Reaches p lines (IsCore lits lits id) → Reaches p lines (IsCore assumptions lits id)
core_among p lines assumptions lits id among core s replay =
    let is = core s replay in
    record { among = among; line = is.line; live = is.live; against = is.against }

-- a full trail on which nothing is left to force gives a solution
pub solution_found : {R : Type 0} (seen : R → Snapshot) (v : SolverValue R) (assumptions : List Literal) (a : List Bool)
    → IsWorking seen v → length a ≡ v.search.trail.vars → IsOfSteps v.search.trail a → ((id : ℕ) (c : ConstraintValue) → get v.search.store id ≡ Some c → Holds a c) → AreMet v.search.trail assumptions
    → ((p : ProblemValue) (s : StateValue) (store : LineMap) (a : List Bool) (assumptions : List Literal) → Fits p s → IsState s → IsStored p s s.next_id store → length a ≡ s.vars
    → ((id : ℕ) (c : ConstraintValue) → get store id ≡ Some c → Holds a c) → All (λ l. lit_true a l ≡ true) assumptions → IsSolution p assumptions a s)
    → Reaches (seen v.recorder).problem (seen v.recorder).lines (IsSolution (seen v.recorder).problem assumptions a)
solution_found seen v assumptions a work long steps holds met law t replay =
    let taken = work.taken in
    let held = taken.held in
    subst (IsSolution (seen v.recorder).problem assumptions a) (replay_once (seen v.recorder).problem (seen v.recorder).lines held.state t held.replay replay)
    (law (seen v.recorder).problem held.state v.search.store a assumptions held.fits held.is (subst (λ (n : ℕ). IsStored (seen v.recorder).problem held.state n v.search.store) taken.all held.stored) (long ∙ taken.vars) holds
    (All-weaker (λ (l : Literal). partial_truth (partial v.search.trail) l ≡ Some true) (λ (l : Literal). lit_true a l ≡ true) steps assumptions met))
