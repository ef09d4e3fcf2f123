-- What the answers of linear relaxations tell.
use Rattle.std.proofs.Common.{◌≡◌, ◌≤◌, ◌∙◌, ℕ, Bool, false, List, Some, length, ap, sym, subst, ℤ}
use Rattle.std.proofs.lemmas.List.{length-map}
use Rattle.scut_base.specs.Literal.{Literal}
use Rattle.front_set.specs.Vector.{IsBelow}
use Rattle.pb_lin.specs.CostRow.{row_cost}
use Rattle.pb_lin.specs.Problem.{ProblemValue, problem_costs}
use Rattle.proof_laws.specs.State.{StateValue}
use Rattle.proof_rules.specs.Recording.{Snapshot}
use Rattle.oracle.specs.Solving.{IsAnswer, IsCore, Reaches}
use Rattle.oracle.specs.declared.answer.Answer.TheVariants.{Sat}
use Rattle.sum_outputs.specs.Adding.{Continues, IsReached, IsReady}
use Rattle.totalizer.specs.Keeping.{OwnLinesStay}
use Rattle.totalizer.specs.declared.bound.Bound.{Bound}
use Rattle.search_base.specs.Adding.{AddingStaysGood}
use Rattle.search_base.specs.Laws.{TurnLinesJoin, TurnLinesKeepOwn}
use Rattle.search_base.specs.Turns.{IsTakable}
use Rattle.search_base.specs.declared.objective_bound.ObjectiveBound.{ObjectiveBound}
use Rattle.search_base.proofs.Takable.{long_enough}
use Rattle.relaxations.specs.Cores.{IsToldByCore}
use Rattle.relaxations.specs.Questions.{IsQuestion}
use Rattle.relaxations.specs.Telling.{StaysGood, Tells}
use Rattle.relaxations.specs.declared.below.Below.{Below}
use Rattle.relaxations.specs.declared.below.Below.TheVariants.{Model}
use Rattle.relaxations.proofs.Told.{told_core}
use Rattle.relaxations.proofs.Telling.{takable}

-- ---- what stays good

pub added_stays_good : AddingStaysGood → (a b : Snapshot) (asked : List ObjectiveBound) → Continues a b
    → b.broken ≡ false → StaysGood a b asked asked
added_stays_good law a b asked on whole front good = law a b asked front good on whole

-- ---- a model of the oracle

module _ (a b : Snapshot) (p : ProblemValue) (limits : List ℤ) (lits : List Literal) (x : List Bool)
    (same : b.problem ≡ a.problem) (is : a.problem ≡ p) (answer : IsAnswer a.problem b.lines lits (Sat x)) where
  takes : IsTakable b x
  takes = takable b lits x (subst (λ (q : ProblemValue). IsAnswer q b.lines lits (Sat x)) (sym same) answer)

  pub long_model : (s : StateValue) → IsReached b s → p.vars ≤ length x
  long_model s reached = subst (λ (q : ProblemValue). q.vars ≤ length x) (same ∙ is) (long_enough b s x reached takes)

  pub as_long : (costs : List ℤ) → costs ≡ problem_costs p x → length limits ≡ length a.problem.costs
      → length costs ≡ length limits
  as_long costs at count =
      ap length at ∙ length-map p.costs (row_cost x) ∙ ap (λ (q : ProblemValue). length q.costs) (sym is) ∙ sym count

  pub model_within : (costs : List ℤ) → costs ≡ problem_costs p x → IsBelow costs limits → Tells b limits (Model x)
  model_within costs at below = (
    takes,
    subst (λ (q : ProblemValue). IsBelow (problem_costs q x) limits) (sym (same ∙ is))
        (subst (λ (v : List ℤ). IsBelow v limits) at below),
  )

-- ---- a core of the relaxations

pub closed_told : OwnLinesStay → TurnLinesJoin → TurnLinesKeepOwn → (a b : Snapshot) (limits : List ℤ)
    (bounds : List Bound) (last : Bound) (lits : List Literal) → IsReady a → Continues a b
    → IsQuestion a limits bounds last (Some lits) → (core : List Literal) (id : ℕ) (below : Below)
    → Reaches b.problem b.lines (IsCore lits core id) → IsToldByCore bounds core id (length limits) below
    → Tells b limits below
closed_told own join keep a b limits bounds last lits ready on question core id below is told =
    let has = on.states ready.state ready.reached in
    told_core a b on.problem (has.state, has.reached) limits bounds lits own keep ready.state ready.reached
    (join.totalizer a b on) question.excesses question.asked.1 question.asked.0 core id below
    (subst (λ (q : ProblemValue). Reaches q b.lines (IsCore lits core id)) on.problem is) told
