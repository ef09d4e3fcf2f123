-- A model is taken: what was asked, the line that logs it, and the pair.
use Rattle.std.proofs.Common.{◌≡◌, ◌≤◌, Bool, false, List, [], ◌∷◌, ◌++◌, length, take, Result, Ok, Err, sym, ap, ◌∙◌, subst, arith, ℤ}
use Rattle.std.specs.Prelude.{IfOk, OnOk}
use Rattle.front_set.specs.Vector.{IsBelow}
use Rattle.instance.specs.Shape.{InstanceValue, IsWithinLimits}
use Rattle.instance.specs.Meaning.{costs_of}
use Rattle.instance.specs.ParetoFront.{problem_vector}
use Rattle.instance_normal.specs.NormalForm.{IsNormalFormOf}
use Rattle.instance_normal.specs.Tightened.{tightened}
use Rattle.std.proofs.lemmas.List.{length-map}
use Rattle.pb_lin.specs.CostRow.{row_cost}
use Rattle.pb_lin.specs.Problem.{ProblemValue, IsProblem, IsProblemModel, problem_costs}
use Rattle.proof_laws.specs.State.{StateValue}
use Rattle.proof_rules.specs.Recording.{Snapshot}
use Rattle.sum_outputs.specs.Adding.{Continues, IsReached, KeptHold}
use Rattle.totalizer.specs.Keeping.{FittingStays, OwnLinesStay, ReformStays}
use Rattle.totalizer.specs.declared.bound.Bound.{Bound}
use Rattle.search_base.specs.Logged.{Logs}
use Rattle.search_base.specs.CostBounds.{FitBounds, reforms_of}
use Rattle.search_base.specs.Boards.{BoardValue, IsModelPair}
use Rattle.search_base.specs.Cutting.{AreAlike, AreAnswers, AreAnswersAt, AreAsked, AreNamed, IsPut, LogsModel, answered_literals}
use Rattle.search_base.specs.Good.{GoesOn, IsGood}
use Rattle.search_base.specs.Laws.{BoundingStaysGood}
use Rattle.search_base.specs.Turns.{IsTakable, IsTaken}
use Rattle.search_base.specs.declared.objective_bound.ObjectiveBound.{ObjectiveBound}
use Rattle.search_base.proofs.AlikeAnswers.{AreWithinReforms, all_alike, all_possible, within_kept}
use Rattle.search_base.proofs.Answered.{named_answers_at, named_literals}
use Rattle.search_base.proofs.Covering.{falls}
use Rattle.search_base.proofs.LoggedStates.{good_after, logs_model}
use Rattle.search_base.proofs.LoggedVectors.{totalizer_logs_none}
use Rattle.search_base.proofs.ModelPairs.{tight_pair}
use Rattle.search_base.proofs.Takable.{costs_kept, long_enough, uncovered_below}

-- what is so where a call went well is so where its want of memory is handed on
pub in_memory_ok : {T E F : Type 0} {P Q : Type 0} (r : Result T E) (q : Result T F) → IfOk r (λ x. q ≡ Ok x) →
    (P → Q) → OnOk q P → OnOk r Q
in_memory_ok {T} {E} {F} {P} (Ok x) q same so is = so (subst (λ (s : Result T F). OnOk s P) same is)
in_memory_ok (Err e) q same so is = tt

-- x is the tightened model of y
pub record IsTightened (i : InstanceValue) (p : ProblemValue) (y x : List Bool) : Type 0 where
  pub limits : IsWithinLimits i
  pub problem : IsProblem p
  pub value : x ≡ tightened i (take i.vars y)
  pub model : IsProblemModel p x
  pub costs : problem_costs p x ≡ problem_vector i (costs_of i (take i.vars y))
  pub below : IsBelow (problem_costs p x) (problem_costs p (take p.vars y))

-- the bounds were asked for its costs, and its line was added
pub record IsLoggedAfter (a m b : Snapshot) (asked : List ObjectiveBound) (x : List Bool)
    (answers : List Bound) : Type 0 where
  pub on : Continues a m
  pub whole : m.broken ≡ false
  pub fits : FitBounds m asked
  pub answered : AreAnswersAt m.problem m.lines x answers
  pub logs : LogsModel m b x answers
  pub goes_on : GoesOn m b

-- it was asked for the costs of x, and this is what the log names
pub record WasAsked (a m : Snapshot) (before : List ObjectiveBound) (x : List Bool)
    (answers named : List Bound) : Type 0 where
  pub on : Continues a m
  pub asked : AreAsked (reforms_of before) (problem_costs a.problem x) answers
  pub answered : AreAnswers m.problem m.lines (problem_costs a.problem x) answers
  pub lines : AreNamed a.problem (problem_costs a.problem x) answers named

pub was_asked : (a m : Snapshot) (before : List ObjectiveBound) (p : ProblemValue) (costs : List ℤ) (x : List Bool)
    (answers given named : List Bound) → p ≡ a.problem → costs ≡ problem_costs p x → given ≡ answers → Continues a m →
    AreAsked (reforms_of before) costs answers → AreAnswers m.problem m.lines costs answers →
    AreNamed p costs given named → WasAsked a m before x answers named
was_asked a m before p costs x answers given named same is again on asked answered lines =
    let whole : costs ≡ problem_costs a.problem x = is ∙ ap (λ (q : ProblemValue). problem_costs q x) same in
    record {
      on = on;
      asked = subst (λ (vs : List ℤ). AreAsked (reforms_of before) vs answers) whole asked;
      answered = subst (λ (vs : List ℤ). AreAnswers m.problem m.lines vs answers) whole answered;
      lines = subst (λ (q : ProblemValue). AreNamed q (problem_costs a.problem x) answers named) same
          (subst (λ (vs : List ℤ). AreNamed p vs answers named) whole
          (subst (λ (bs : List Bound). AreNamed p costs bs named) again lines));
    }

pub tight_below : (i : InstanceValue) (p : ProblemValue) (y x : List Bool) → IsTightened i p y x →
    IsBelow (problem_costs p x) (problem_costs p y)
tight_below i p y x tight =
    subst (λ (v : List ℤ). IsBelow (problem_costs p x) v) (costs_kept p y tight.problem) tight.below

-- What is named covers the costs, and none of its literals are opposite: an assignment makes them true, at which no row
-- costs more than its reform.
pub named_within : (a m : Snapshot) (s : StateValue) (before : List ObjectiveBound) (y x : List Bool)
    (answers named : List Bound) → IsReached a s → AreWithinReforms a s before y → FitBounds a before →
    IsBelow (problem_costs a.problem x) (problem_costs a.problem y) → WasAsked a m before x answers named →
    AreAnswersAt m.problem m.lines x named × AreAlike (answered_literals named)
named_within a m s before y x answers named reached most fit below was =
    let answered = was.answered in
    let sizes = length-map a.problem.costs (row_cost x) in
    let count : length answers ≡ length a.problem.costs = answered.count ∙ sizes in
    let on = was.on in
    let same : m.problem ≡ a.problem = on.problem in (
      named_answers_at m.problem m.lines x answers named
          (all_possible a s reached before x y answers fit most below count was.asked)
          (subst (λ (q : ProblemValue). AreAnswers m.problem m.lines (problem_costs q x) answers) (sym same) was.answered)
          (subst (λ (q : ProblemValue). AreNamed q (problem_costs q x) answers named) (sym same) was.lines),
      subst AreAlike (sym (named_literals a.problem (problem_costs a.problem x) answers named was.lines))
          (all_alike a s reached before x y answers fit most below count was.asked),
    )

-- the taken assignment is one
pub named_serve : (a m : Snapshot) (s : StateValue) (before : List ObjectiveBound) (y x : List Bool)
    (answers named : List Bound) → IsReached a s → IsTakable a y → FitBounds a before →
    IsBelow (problem_costs a.problem x) (problem_costs a.problem y) → WasAsked a m before x answers named →
    AreAnswersAt m.problem m.lines x named × AreAlike (answered_literals named)
named_serve a m s before y x answers named reached takable fit below was =
    let is = takable s reached in
    let hold : KeptHold a.problem a.lines s y = λ id c kept. is.clauses id c kept.0 kept.1 in
    named_within a m s before y x answers named reached (within_kept a s before y is.rows hold) fit below was

pub tightened_of : (i j : InstanceValue) (p q : ProblemValue) (y x : List Bool) → i ≡ j → p ≡ q →
    IsTightened i p y x → IsTightened j q y x
tightened_of i j p q y x one other is =
    subst (λ (k : InstanceValue). IsTightened k q y x) one
    (subst (λ (r : ProblemValue). IsTightened i r y x) other is)

-- the tightened model and its costs are a pair of the instance
pub tight_model_pair : (i : InstanceValue) (p : ProblemValue) (y x : List Bool) → IsNormalFormOf i p →
    p.vars ≤ length y → IsTightened i p y x →
    IsModelPair i (record { costs = problem_costs p x; model = take i.vars x })
tight_model_pair i p y x normal long tight =
    tight_pair i p y x tight.limits tight.problem normal (omega (arith, normal.vars)) tight.value tight.model tight.costs

pub good_taken : BoundingStaysGood → OwnLinesStay → FittingStays → ReformStays →
    (a m b : Snapshot) (s : StateValue) (before asked : List ObjectiveBound) (old new : BoardValue) (y x : List Bool)
    (answers : List Bound) → IsReached a s → IsTakable a y → IsTightened old.instance a.problem y x →
    IsGood a before old → IsLoggedAfter a m b asked x answers
    → IsPut old new (problem_costs a.problem x) x → IsGood b asked new
good_taken bounding own fitting reforms a m b s before asked old new y x answers reached takable tight good log put =
    let middle : IsGood m asked old = (bounding a m before asked old good log.on log.whole log.fits).0 in
    let same : m.problem ≡ a.problem = log.on.problem in
    let normal : IsNormalFormOf old.instance a.problem =
    subst (λ (q : ProblemValue). IsNormalFormOf old.instance q) good.problem good.board.normal in
    let pair : IsModelPair old.instance
    (record { costs = problem_costs a.problem x; model = take old.instance.vars x }) =
    tight_model_pair old.instance a.problem y x normal (long_enough a s y reached takable) tight in
    good_after m b x answers log.logs own fitting reforms asked old new middle log.goes_on log.answered
    (subst (λ (q : ProblemValue). IsPut old new (problem_costs q x) x) (sym same) put)
    (subst (λ (q : ProblemValue). IsModelPair old.instance
    (record { costs = problem_costs q x; model = take old.instance.vars x })) (sym same) pair)

-- one vector was logged, and no logged one was below it
pub is_taken : (a m b : Snapshot) (s : StateValue) (before asked : List ObjectiveBound) (old : BoardValue)
    (y x : List Bool) (answers : List Bound) → IsReached a s → IsTakable a y →
    IsTightened old.instance a.problem y x → IsGood a before old → IsLoggedAfter a m b asked x answers → IsTaken a b old y
is_taken a m b s before asked old y x answers reached takable tight good log =
    let p = a.problem in
    let below : IsBelow (problem_costs p x) (problem_costs p y) = tight_below old.instance p y x tight in
    let last : Logs p m.lines b.lines (problem_costs p x) =
    subst (λ (q : ProblemValue). Logs q m.lines b.lines (problem_costs q x)) log.on.problem
    (logs_model m b x answers log.logs) in
    let logs : Logs p a.lines b.lines (problem_costs p x) = last
    ∙ ap (λ (vs : List (List ℤ)). vs ++ problem_costs p x ∷ []) (totalizer_logs_none a m log.on) in
    record {
      found = record {
        costs = problem_costs p x;
        logs = logs;
        falls = falls p a.lines b.lines x logs
            (uncovered_below a s y reached takable good.new (problem_costs p x) below);
      };
      costs = tight.costs;
      below = below;
    }
