-- What closes the goals of a substitution.
use Rattle.std.proofs.Common.{◌≡◌, ◌↔◌, ℕ, ◌<◌, ◌≤◌, Bool, List, length, get_or, sum_by, ◌∙◌, arith, ⊎_elim, pos, ◌-ℤ◌}
use Rattle.std.specs.List.{All}
use Rattle.std.proofs.lemmas.Bool.{cases_lt}
use Rattle.std.proofs.lemmas.Int.{ints}
use Rattle.std.proofs.lemmas.List.FromFn.{length-map-range_with_len}
use Rattle.scut_base.specs.Literal.{Literal}
use Rattle.pb_lin.specs.Constraint.{ConstraintValue, Holds, value, negation}
use Rattle.pb_lin.specs.CostRow.{CostRowValue}
use Rattle.pb_lin.specs.Problem.{ProblemValue, problem_costs}
use Rattle.pb_lin.specs.Substitution.{Images, IsUnder, variable_under, value_under}
use Rattle.scut_base.proofs.Lists.{sum_by_same_in}
use Rattle.pb_lin.proofs.Laws.{Holds-excess}
use Rattle.proof_laws.proofs.Costs.{below_by_values}
use Rattle.proof_laws.proofs.Definitions.{value-opposites}
use Rattle.proof_laws.proofs.Images.{image_holds, image_value, image_untouched}
use Rattle.proof_laws.proofs.CoverSteps.{redundant_keeps, dominance_keeps}
use Rattle.front_set.specs.Vector.{IsBelow}
use Rattle.proof_laws.specs.State.{StateValue, Satisfies, CoversAll}
use Rattle.proof_laws.specs.Steps.{with_live}
use Rattle.proof_laws.proofs.Semantics.{AreWithin, IsWithin, weight, image, AreUntouched, Broken, StaysTrue, StaysLow, IsRedundant, IsDominated, IsCostGoal, IsStrictGoal}

-- terms over the state's variables are over those of an assignment that satisfies it
as_long : (p : ProblemValue) (s : StateValue) (x : List Bool) (terms : List (Literal × ℕ)) → Satisfies p s x → AreWithin s.vars terms → AreWithin (length x) terms
as_long p s x terms sat within k d short = let w = within k d short in let long = sat.variables in (w.0, omega arith)

pub untouched_stays : (p : ProblemValue) (s : StateValue) (c : ConstraintValue) (w : Images) (d : ConstraintValue) → AreWithin s.vars d.terms → AreUntouched w d.terms → ((x : List Bool) → Satisfies p s x → Holds x d) → StaysTrue p s c w d
untouched_stays p s c w d within apart holds x sat breaks =
    let same = image_untouched w x d.terms (as_long p s x d.terms sat within) apart in
    let here = holds x sat in
    omega arith

pub goal_stays : (p : ProblemValue) (s : StateValue) (c : ConstraintValue) (w : Images) (g d : ConstraintValue) → AreWithin s.vars d.terms → IsUnder g w d → Broken p s c (λ x. Holds x g) → StaysTrue p s c w d
goal_stays p s c w g d within under holds x sat breaks = (image_holds g d w x under (as_long p s x d.terms sat within)).0 (holds x sat breaks)

-- a constraint holds where its negation doesn't
holds_by_negation : (a : List Bool) (c : ConstraintValue) → (Holds a (negation c) → ⊥) → Holds a c
holds_by_negation a c not_negated = ⊎_elim
    (λ (less : value a c.terms < c.degree). let sums = value-opposites a c.terms in absurd (not_negated (omega arith)))
    (λ (holds : c.degree ≤ value a c.terms). holds)
    (cases_lt (value a c.terms) c.degree)

negation_by_break : (a : List Bool) (c : ConstraintValue) → (Holds a c → ⊥) → Holds a (negation c)
negation_by_break a c breaks = ⊎_elim
    (λ (less : value a c.terms < c.degree). let sums = value-opposites a c.terms in omega arith)
    (λ (holds : c.degree ≤ value a c.terms). absurd (breaks holds))
    (cases_lt (value a c.terms) c.degree)

pub conflict_implies : (p : ProblemValue) (s : StateValue) (c : ConstraintValue) → ((x : List Bool) → Satisfies p s x → Holds x (negation c) → ⊥) → (x : List Bool) → Satisfies p s x → Holds x c
conflict_implies p s c conflict x sat = holds_by_negation x c (conflict x sat)

pub conflict_closes : (p : ProblemValue) (s : StateValue) (c g : ConstraintValue) → ((x : List Bool) → Satisfies p s x → Holds x (negation g) → Holds x (negation c) → ⊥) → Broken p s c (λ x. Holds x g)
conflict_closes p s c g conflict x sat breaks = holds_by_negation x g (λ negated. conflict x sat negated (negation_by_break x c breaks))

pub cost_goal_is : (g : ConstraintValue) (w : Images) (r : CostRowValue) → IsCostGoal g w r → (x : List Bool) → (Holds x g ↔ (value_under w x r.terms ≤ value x r.terms))
cost_goal_is g w r is x =
    let holds = Holds-excess g (λ a. pos (value a r.terms) -ℤ pos (value_under w a r.terms)) is x in
    ((λ h. let k = holds.0 h in omega (arith, ints)), (λ h. holds.1 (omega (arith, ints))))

pub strict_goal_is : (g : ConstraintValue) (w : Images) (p : ProblemValue) → IsStrictGoal g w p → (x : List Bool) → (Holds x g ↔ (sum_by (λ r. value_under w x r.terms) p.costs < weight p x))
strict_goal_is g w p is x =
    let holds = Holds-excess g (λ a. (pos (weight p a) -ℤ pos (sum_by (λ r. value_under w a r.terms) p.costs)) -ℤ pos 1) is x in
    ((λ h. let k = holds.0 h in omega (arith, ints)), (λ h. holds.1 (omega (arith, ints))))

length-image : (w : Images) (x : List Bool) → length (image w x) ≡ length x
length-image w x = length-map-range_with_len (variable_under w x) 1 (length x)

cost_within : (p : ProblemValue) (s : StateValue) (x : List Bool) → IsWithin p s → Satisfies p s x → All (λ r. AreWithin (length x) r.terms) p.costs
cost_within p s x within sat k d short i t less = let w = within.costs k d short i t less in let vars = within.vars in let long = sat.variables in (w.0, omega arith)

image_below : (p : ProblemValue) (s : StateValue) (c : ConstraintValue) (w : Images) (x : List Bool) → IsWithin p s → Satisfies p s x → (Holds x c → ⊥) → All (StaysLow p s c w) p.costs → IsBelow (problem_costs p (image w x)) (problem_costs p x)
image_below p s c w x within sat breaks low = below_by_values (image w x) x p.costs (λ k d short.
    let same = image_value w x (get_or p.costs k d).terms (cost_within p s x within sat k d short) in
    let less = low k d short x sat breaks in
    omega arith)

pub witness_redundant : (p : ProblemValue) (s : StateValue) (id : ℕ) (c : ConstraintValue) (w : Images) → IsWithin p s → IsRedundant p s c w → CoversAll p s → CoversAll p (with_live s id c)
witness_redundant p s id c w within is = redundant_keeps p s id c (λ x sat breaks. (
  image w x,
  record {
    variables = length-image w x ∙ sat.variables;
    rows = λ k d short. is.rows k d short x sat breaks;
    live = λ i d found. is.live i d found x sat breaks;
  },
  is.itself x sat breaks,
  image_below p s c w x within sat breaks is.costs,
))

image_weight : (p : ProblemValue) (s : StateValue) (w : Images) (x : List Bool) → IsWithin p s → Satisfies p s x → weight p (image w x) ≡ sum_by (λ r. value_under w x r.terms) p.costs
image_weight p s w x within sat = sum_by_same_in (λ r. value (image w x) r.terms) (λ r. value_under w x r.terms) p.costs (λ k d short.
    image_value w x (get_or p.costs k d).terms (cost_within p s x within sat k d short))

pub witness_dominated : (p : ProblemValue) (s : StateValue) (id : ℕ) (c : ConstraintValue) (w : Images) → IsWithin p s → IsDominated p s c w → CoversAll p s → CoversAll p (with_live s id c)
witness_dominated p s id c w within is = dominance_keeps p s id c within (λ x sat breaks.
    let long = length-image w x in
    let own = sat.variables in
    let vars = within.vars in
    let weights = image_weight p s w x within sat in
    let less = is.sum x sat breaks in (
      image w x,
      omega arith,
      (λ k d short. is.rows k d short x sat breaks),
      image_below p s c w x within sat breaks is.costs,
      omega arith,
    ))
