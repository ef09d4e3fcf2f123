-- Steps that keep every model covered.
use Rattle.std.proofs.Common.{◌≡◌, ℕ, zero, suc, ◌+◌, ◌<◌, ◌≤◌, Bool, false, Some, List, [], ◌∷◌, ◌++◌, length, take, get_or, ap, subst, sym, ◌∙◌, arith, ⊎_elim, inl, inr, ℤ}
use Rattle.std.specs.List.{All, Contains}
use Rattle.std.specs.FinMap.{get}
use Rattle.std.proofs.lemmas.Bool.{cases_lt}
use Rattle.std.proofs.lemmas.List.{length-take-le, length_push}
use Rattle.std.proofs.lemmas.List.Elements.{Contains-append_left, Contains-push, All-contains}
use Rattle.scut_base.specs.Literal.{Literal}
use Rattle.scut_base.specs.Assignment.{lit_true}
use Rattle.pb_lin.specs.Constraint.{ConstraintValue, Holds, value}
use Rattle.pb_lin.specs.Problem.{ProblemValue, problem_costs, IsProblemModel}
use Rattle.pb_lin.specs.LineMap.{LineMap}
use Rattle.front_set.specs.Vector.{IsBelow}
use Rattle.front_set.proofs.FrontLaws.{IsBelow-refl, IsBelow-trans}
use Rattle.proof_laws.proofs.Costs.{below_by_values, weight_by_below}
use Rattle.proof_laws.proofs.Live.{live_insert, live_numbered}
use Rattle.proof_laws.proofs.Images.{value-take, value-push}
use Rattle.proof_laws.proofs.Definitions.{clause_cases, definition_holds}
use Rattle.proof_laws.specs.State.{StateValue, Satisfies, IsLogged, IsReached, CoversAll, start}
use Rattle.proof_laws.specs.Steps.{with_live, clause, reached_if, reached_only_if}
use Rattle.proof_laws.proofs.Semantics.{weight, IsCovered, AreWithin, IsWithin, with_defined, with_logged}

-- at the start a model satisfies the state
pub start_is_covered : (p : ProblemValue) → CoversAll p (start p)
start_is_covered p b model = inr (
  b,
  record {
    variables = model.variables;
    rows = model.rows;
    live = λ id c is. All-contains (Holds b) p.rows c model.rows (live_numbered 1 p.rows id c is);
  },
  IsBelow-refl (problem_costs p b),
)

-- larger costs are covered too
covered_above : (p : ProblemValue) (t : StateValue) (u v : List ℤ) → IsBelow u v → IsCovered p t u → IsCovered p t v
covered_above p t u v below covered = ⊎_elim
    (λ (l : IsLogged t u). inl (l.0, l.1, IsBelow-trans l.0 u v l.2 below))
    (λ (r : IsReached p t u). inr (r.0, r.1, IsBelow-trans (problem_costs p r.0) u v r.2 below))
    covered

-- the one law beneath the others: what was logged stays logged, and what satisfied the old state is covered in the new one
pub covers_step : (p : ProblemValue) (s t : StateValue) → ((u : List ℤ) → Contains s.sols u → Contains t.sols u) → ((x : List Bool) → Satisfies p s x → IsCovered p t (problem_costs p x)) → CoversAll p s → CoversAll p t
covers_step p s t kept step covers b model = ⊎_elim
    (λ (l : IsLogged s (problem_costs p b)). inl (l.0, kept l.0 l.1, l.2))
    (λ (r : IsReached p s (problem_costs p b)). covered_above p t (problem_costs p r.0) (problem_costs p b) r.2 (step r.0 r.1))
    (covers b model)

with_line_holds : (p : ProblemValue) (s : StateValue) (id : ℕ) (c : ConstraintValue) (x : List Bool) → Satisfies p s x → Holds x c → Satisfies p (with_live s id c) x
with_line_holds p s id c x sat holds = record {
  variables = sat.variables;
  rows = sat.rows;
  live = live_insert (Holds x) s.live id c holds sat.live;
}

-- where the line holds
itself : (p : ProblemValue) (s : StateValue) (id : ℕ) (c : ConstraintValue) (x : List Bool) → Satisfies p s x → Holds x c → IsCovered p (with_live s id c) (problem_costs p x)
itself p s id c x sat holds = inr (x, with_line_holds p s id c x sat holds, IsBelow-refl (problem_costs p x))

pub line_keeps : (p : ProblemValue) (s : StateValue) (id : ℕ) (c : ConstraintValue) → ((x : List Bool) → Satisfies p s x → Holds x c) → CoversAll p s → CoversAll p (with_live s id c)
line_keeps p s id c implied = covers_step p s (with_live s id c) (λ u there. there) (λ x sat. itself p s id c x sat (implied x sat))

broken : (x : List Bool) (c : ConstraintValue) → value x c.terms < c.degree → Holds x c → ⊥
broken x c less holds = omega arith

pub redundant_keeps : (p : ProblemValue) (s : StateValue) (id : ℕ) (c : ConstraintValue) →
    ((x : List Bool) → Satisfies p s x → (Holds x c → ⊥) → (y : List Bool) × Satisfies p s y × Holds y c × IsBelow (problem_costs p y) (problem_costs p x)) →
    CoversAll p s → CoversAll p (with_live s id c)
redundant_keeps p s id c better = covers_step p s (with_live s id c) (λ u there. there) (λ x sat. ⊎_elim
    (λ (less : value x c.terms < c.degree). let y = better x sat (broken x c less) in inr (y.0, with_line_holds p s id c y.0 y.1 y.2, y.3))
    (λ (holds : c.degree ≤ value x c.terms). itself p s id c x sat holds)
    (cases_lt (value x c.terms) c.degree))

pub solution_keeps : (p : ProblemValue) (s : StateValue) (id : ℕ) (c : ConstraintValue) (u : List ℤ) → ((x : List Bool) → Satisfies p s x → (Holds x c → ⊥) → IsBelow u (problem_costs p x)) → CoversAll p s → CoversAll p (with_logged s id c u)
solution_keeps p s id c u bounded = covers_step p s (with_logged s id c u) (λ v there. Contains-append_left s.sols (u ∷ []) v there) (λ x sat. ⊎_elim
    (λ (less : value x c.terms < c.degree). inl (u, Contains-push s.sols u, bounded x sat (broken x c less)))
    (λ (holds : c.degree ≤ value x c.terms). inr (x, record { variables = sat.variables; rows = sat.rows; live = live_insert (Holds x) s.live id c holds sat.live }, IsBelow-refl (problem_costs p x)))
    (cases_lt (value x c.terms) c.degree))

-- ---- a better model for each assignment that breaks the line

-- the first variables of an assignment that makes the rows hold are a model of the same costs
cut_is_model : (p : ProblemValue) (s : StateValue) (y : List Bool) → IsWithin p s → p.vars ≤ length y → All (Holds y) p.rows → IsProblemModel p (take p.vars y)
cut_is_model p s y within long rows = record {
  variables = length-take-le p.vars y long;
  rows = λ k d short. let same = value-take p.vars y (get_or p.rows k d).terms (within.rows k d short) in let holds = rows k d short in omega arith;
}

cut_below : (p : ProblemValue) (s : StateValue) (y : List Bool) → IsWithin p s → IsBelow (problem_costs p (take p.vars y)) (problem_costs p y)
cut_below p s y within = below_by_values (take p.vars y) y p.costs (λ k d short. let same = value-take p.vars y (get_or p.costs k d).terms (within.costs k d short) in omega arith)

-- a model of the problem that costs no more than x, and less in sum
abbrev Better : ProblemValue → List Bool → Type 0
Better p x = (y : List Bool) × (p.vars ≤ length y) × All (Holds y) p.rows × IsBelow (problem_costs p y) (problem_costs p x) × (weight p y < weight p x)

-- by the number of sums below n
descent : (p : ProblemValue) (s : StateValue) (id : ℕ) (c : ConstraintValue) → IsWithin p s → ((x : List Bool) → Satisfies p s x → (Holds x c → ⊥) → Better p x) → CoversAll p s → (n : ℕ) (x : List Bool) → Satisfies p s x → weight p x < n → IsCovered p (with_live s id c) (problem_costs p x)
descent p s id c within better covers zero x sat less = absurd (omega arith)
descent p s id c within better covers (suc n) x sat less = ⊎_elim
    (λ (lower : value x c.terms < c.degree).
    let y = better x sat (broken x c lower) in
    let cut = cut_below p s y.0 within in
    let below = IsBelow-trans (problem_costs p (take p.vars y.0)) (problem_costs p y.0) (problem_costs p x) cut y.3 in
    ⊎_elim
    (λ (l : IsLogged s (problem_costs p (take p.vars y.0))). inl (l.0, l.1, IsBelow-trans l.0 (problem_costs p (take p.vars y.0)) (problem_costs p x) l.2 below))
    (λ (r : IsReached p s (problem_costs p (take p.vars y.0))).
    let first = weight_by_below r.0 (take p.vars y.0) p.costs r.2 in
    let second = weight_by_below (take p.vars y.0) y.0 p.costs cut in
    let third = y.4 in
    covered_above p (with_live s id c) (problem_costs p r.0) (problem_costs p x) (IsBelow-trans (problem_costs p r.0) (problem_costs p (take p.vars y.0)) (problem_costs p x) r.2 below) (descent p s id c within better covers n r.0 r.1 (omega arith)))
    (covers (take p.vars y.0) (cut_is_model p s y.0 within y.1 y.2)))
    (λ (holds : c.degree ≤ value x c.terms). itself p s id c x sat holds)
    (cases_lt (value x c.terms) c.degree)

pub dominance_keeps : (p : ProblemValue) (s : StateValue) (id : ℕ) (c : ConstraintValue) → IsWithin p s →
    ((x : List Bool) → Satisfies p s x → (Holds x c → ⊥) → (y : List Bool) × (p.vars ≤ length y) × All (Holds y) p.rows × IsBelow (problem_costs p y) (problem_costs p x) × (weight p y < weight p x)) →
    CoversAll p s → CoversAll p (with_live s id c)
dominance_keeps p s id c within better covers = covers_step p s (with_live s id c) (λ u there. there) (λ x sat. descent p s id c within better covers (weight p x + 1) x sat (omega arith)) covers

-- ---- a new variable

pub definition_keeps : (p : ProblemValue) (s : StateValue) (id : ℕ) (c d : ConstraintValue) → IsWithin p s →
    ((x : List Bool) → Satisfies p s x → (v : Bool) × Holds (x ++ v ∷ []) c × Holds (x ++ v ∷ []) d) →
    CoversAll p s → CoversAll p (with_defined s id c d)
definition_keeps p s id c d within extends = covers_step p s (with_defined s id c d) (λ u there. there) (λ x sat.
    let v = extends x sat in
    let long = sat.variables in
    let vars = within.vars in
    inr (
      x ++ v.0 ∷ [],
      record {
        variables = length_push x v.0 ∙ ap (λ n. n + 1) sat.variables;
        rows = λ k e short.
            let same = value-push x v.0 (get_or p.rows k e).terms (λ i t less. let w = within.rows k e short i t less in (w.0, omega arith)) in
            let holds = sat.rows k e short in
            omega arith;
        live = live_insert (Holds (x ++ v.0 ∷ [])) _ (id + 1) d v.2 (live_insert (Holds (x ++ v.0 ∷ [])) s.live id c v.1 (λ i e is.
            let same = value-push x v.0 e.terms (λ k t less. let w = within.live i e is k t less in (w.0, omega arith)) in
            let holds = sat.live i e is in
            omega arith));
      },
      below_by_values (x ++ v.0 ∷ []) x p.costs (λ k e short.
          let same = value-push x v.0 (get_or p.costs k e).terms (λ i t less. let w = within.costs k e short i t less in (w.0, omega arith)) in
          omega arith),
    ))

-- ---- fewer lines, and a line that never holds

pub fewer_keep : (p : ProblemValue) (s : StateValue) (lines : LineMap) → ((id : ℕ) (c : ConstraintValue) → get lines id ≡ Some c → get s.live id ≡ Some c) → CoversAll p s → CoversAll p (record s { live = lines })
fewer_keep p s lines fewer = covers_step p s (record s { live = lines }) (λ u there. there) (λ x sat.
    inr (x, record { variables = sat.variables; rows = sat.rows; live = λ id c is. sat.live id c (fewer id c is) }, IsBelow-refl (problem_costs p x)))

pub nothing_satisfies : (p : ProblemValue) (s : StateValue) (id : ℕ) (c : ConstraintValue) → get s.live id ≡ Some c → c.terms ≡ [] → 0 < c.degree → (x : List Bool) → Satisfies p s x → ⊥
nothing_satisfies p s id c is none positive x sat =
    let holds = sat.live id c is in
    let zero' = ap (value x) none in
    omega arith

-- ---- the lines that a checker makes

pub sum_defined_keeps : (p : ProblemValue) (s : StateValue) (id : ℕ) (sum : ConstraintValue) → IsWithin p s → AreWithin s.vars sum.terms → CoversAll p s → CoversAll p (with_defined s id (reached_if (s.vars + 1) sum) (reached_only_if (s.vars + 1) sum))
sum_defined_keeps p s id sum within in' = definition_keeps p s id (reached_if (s.vars + 1) sum) (reached_only_if (s.vars + 1) sum) within (λ x sat.
    definition_holds x (s.vars + 1) sum (ap (λ n. n + 1) sat.variables) (λ i t short. let w = in' i t short in let long = sat.variables in (w.0, omega arith)))

pub model_logged_keeps : (p : ProblemValue) (s : StateValue) (id : ℕ) (cut : List Literal) (m : List Bool) →
    ((x : List Bool) → Satisfies p s x → All (λ l. lit_true x l ≡ false) cut → All (λ r. value m r.terms ≤ value x r.terms) p.costs) →
    CoversAll p s → CoversAll p (with_logged s id (clause cut) (problem_costs p m))
model_logged_keeps p s id cut m bounded = solution_keeps p s id (clause cut) (problem_costs p m) (λ x sat breaks.
    below_by_values m x p.costs (⊎_elim
    (λ (all : All (λ l. lit_true x l ≡ false) cut). bounded x sat all)
    (λ (holds : Holds x (clause cut)). absurd (breaks holds))
    (clause_cases x cut)))

-- counts don't matter
pub same_keeps : (p : ProblemValue) (s t : StateValue) → s.vars ≡ t.vars → s.live ≡ t.live → s.sols ≡ t.sols → CoversAll p s → CoversAll p t
same_keeps p s t vars live sols = covers_step p s t (λ u there. subst (λ (us : List (List ℤ)). Contains us u) sols there) (λ x sat. inr (
  x,
  record {
    variables = sat.variables ∙ vars;
    rows = sat.rows;
    live = λ id c is. sat.live id c (subst (λ (m : LineMap). get m id ≡ Some c) (sym live) is);
  },
  IsBelow-refl (problem_costs p x),
))
