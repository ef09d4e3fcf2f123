-- The bounded problem is within the limits of problems.
use Rattle.std.specs.Prelude.{◌≡◌, ℕ, ◌+◌, ◌*◌, ◌<◌, ◌≤◌, ◌^◌, Bool, List, [], ◌∷◌, ◌++◌, map, length, ℤ, unsigned_abs, All, refl}
use Rattle.std.specs.List.{filter, flat_map}
use Rattle.std.proofs.Common.{sym, ap, subst, length-append, arith}
use Rattle.std.proofs.lemmas.List.{length-map}
use Rattle.std.proofs.lemmas.List.Elements.{All-nil, All-cons, All-head, All-tail, All-append, All-map, All-weaker}
use Rattle.std.proofs.lemmas.Slice.Zip.{AllZip-long}
use Rattle.instance.specs.declared.objective.Objective.{Objective}
use Rattle.instance.specs.declared.objective.Soft.{Soft}
use Rattle.instance.specs.declared.row.Linear.{Linear}
use Rattle.instance.specs.declared.row.Rel.{Rel}
use Rattle.instance.specs.declared.row.Rel.TheVariants.{AtLeast, AtMost, Equal}
use Rattle.instance.specs.Shape.{InstanceValue, IsWithinLimits}
use Rattle.instance.specs.ParetoFront.{problem_vector}
use Rattle.instance.proofs.Dominance.{bounds_kept}
use Rattle.instance_normal.specs.Fitting.{Fits}
use Rattle.instance_normal.specs.NormalForm.{Clause, IsCostRowOf, IsNormalFormOf, IsRowOf, cost_sources, is_relaxed, linear_sources, relaxed_clauses, relaxed_softs, row_sources, sources_by}
use Rattle.instance_normal.proofs.Fitted.{form_within}
use Rattle.instance_normal.proofs.Within.{few_relaxed}
use Rattle.pb_lin.specs.Constraint.{ConstraintValue, IsNormal, TermsUpTo}
use Rattle.pb_lin.specs.CostRow.{CostRowValue, IsCostRow}
use Rattle.pb_lin.specs.Problem.{ProblemValue, IsProblem}
use Rattle.representatives.specs.Bounded.{AreCostBounds, IsBounded, blocking}
use Rattle.representatives.specs.Laws.{AreGiven}
use Rattle.representatives.proofs.Blocking.{blocking_fits, blocking_normal}
use Rattle.representatives.proofs.Bounds.{bound_fits}

-- ---- the rows of a normal form

two_at_most : (rel : Rel) (row : Linear) → length (sources_by rel row) ≤ 2
two_at_most AtLeast row = omega arith
two_at_most AtMost row = omega arith
two_at_most Equal row = omega arith

linear_count : (rows : List Linear) → length (flat_map linear_sources rows) ≤ 2 * length rows
linear_count [] = omega arith
linear_count (row ∷ rows) = omega (arith, linear_count rows, two_at_most row.rel row, length-append (linear_sources row) (flat_map linear_sources rows))

relaxed_count : (var : ℕ) (softs : List Soft) → length (relaxed_clauses var softs) ≡ length softs
relaxed_count var [] = refl
relaxed_count var (s ∷ softs) = omega (arith, relaxed_count (var + 1) softs)

-- the normal form of an instance within its limits has fewer than 2^33 rows
few_rows : (i : InstanceValue) (p : ProblemValue) → IsWithinLimits i → IsNormalFormOf i p → length p.rows < 2 ^ 33
few_rows i p limits form =
    let relaxed = few_relaxed i.objectives in
    let rows = AllZip-long IsRowOf (row_sources i) p.rows form.rows in
    let first = length-append (map Clause i.clauses ++ flat_map linear_sources i.linear) (relaxed_clauses (i.vars + 1) (relaxed_softs i)) in
    let second = length-append (map Clause i.clauses) (flat_map linear_sources i.linear) in
    let clauses = length-map i.clauses Clause in
    omega (arith, linear_count i.linear, relaxed_count (i.vars + 1) (relaxed_softs i), limits.size)

cost_count : (var : ℕ) (os : List Objective) → length (cost_sources var os) ≡ length os
cost_count var [] = refl
cost_count var (o ∷ os) = omega (arith, cost_count (var + length (filter is_relaxed o.softs)) os)

-- it has a cost row for each objective
pub as_many_costs : (i : InstanceValue) (p : ProblemValue) → IsNormalFormOf i p → length p.costs ≡ length i.objectives
as_many_costs i p form =
    let costs = AllZip-long IsCostRowOf (cost_sources (i.vars + 1) i.objectives) p.costs form.costs in
    omega (arith, cost_count (i.vars + 1) i.objectives)

-- ---- the bounds

-- what a row of a problem over n variables is
record IsRowWithin (n : ℕ) (c : ConstraintValue) : Type 0 where
  normal : IsNormal c.terms c.degree
  fits : Fits n c

bounds_within : (n : ℕ) (rs : List CostRowValue) (us : List ℤ) (cs : List ConstraintValue) → All (λ r. IsCostRow r.terms r.offset) rs → All (λ r. TermsUpTo n r.terms) rs → All (λ x. unsigned_abs x < 2 ^ 63) us → AreCostBounds rs us cs → All (IsRowWithin n) cs
bounds_within n [] [] [] are upto small bounds = All-nil (IsRowWithin n)
bounds_within n [] [] (c ∷ cs) are upto small bounds = absurd bounds
bounds_within n [] (u ∷ us) cs are upto small bounds = absurd bounds
bounds_within n (r ∷ rs) [] cs are upto small bounds = absurd bounds
bounds_within n (r ∷ rs) (u ∷ us) [] are upto small bounds = absurd bounds
bounds_within n (r ∷ rs) (u ∷ us) (c ∷ cs) are upto small bounds =
    let fits = bound_fits n r u c (All-head (λ (x : CostRowValue). IsCostRow x.terms x.offset) r rs are) (All-head (λ (x : CostRowValue). TermsUpTo n x.terms) r rs upto) (All-head (λ (x : ℤ). unsigned_abs x < 2 ^ 63) u us small) bounds.0 in
    All-cons (IsRowWithin n) c cs (record { normal = bounds.0.normal; fits = fits })
    (bounds_within n rs us cs (All-tail (λ (x : CostRowValue). IsCostRow x.terms x.offset) r rs are) (All-tail (λ (x : CostRowValue). TermsUpTo n x.terms) r rs upto) (All-tail (λ (x : ℤ). unsigned_abs x < 2 ^ 63) u us small) bounds.1)

bounds_count : (rs : List CostRowValue) (us : List ℤ) (cs : List ConstraintValue) → AreCostBounds rs us cs → length cs ≡ length rs
bounds_count [] [] [] bounds = refl
bounds_count [] [] (c ∷ cs) bounds = absurd bounds
bounds_count [] (u ∷ us) cs bounds = absurd bounds
bounds_count (r ∷ rs) [] cs bounds = absurd bounds
bounds_count (r ∷ rs) (u ∷ us) [] bounds = absurd bounds
bounds_count (r ∷ rs) (u ∷ us) (c ∷ cs) bounds = let rest = bounds_count rs us cs bounds.1 in omega arith

-- ---- the clauses

clauses_within : (n m : ℕ) (list : List (List Bool)) → m ≤ n → m < 2 ^ 64 → All (λ a. length a ≡ m) list → All (IsRowWithin n) (map blocking list)
clauses_within n m list le short long = All-map (IsRowWithin n) blocking list
    (All-weaker (λ (a : List Bool). length a ≡ m) (λ (a : List Bool). IsRowWithin n (blocking a))
    (λ a is. record { normal = blocking_normal a (omega arith); fits = blocking_fits n a (omega arith) (omega arith) }) list long)

-- ---- the whole

rows_within : (p : ProblemValue) → IsProblem p → All (IsRowWithin p.vars) p.rows
rows_within p problem k d short = record {
  normal = problem.normal_rows k d short;
  fits = record { upto = problem.row_variables k d short; small = problem.row_sizes k d short };
}

pub bounded_within : (i : InstanceValue) (p q : ProblemValue) (v : List ℤ) (list : List (List Bool)) → AreGiven i p v list → IsBounded p (problem_vector i v) list q → IsProblem q
bounded_within i p q v list given bounded =
    let problem = form_within i p given.limits given.normal in
    let numbers = bounds_kept i v given.vector in
    let vars : q.vars ≡ p.vars = bounded.vars in
    let bounds = bounds_within p.vars p.costs (problem_vector i v) bounded.bounds problem.cost_rows problem.cost_variables numbers.small bounded.are_bounds in
    let clauses = clauses_within p.vars i.vars list (omega (arith, given.normal.vars)) (omega (arith, given.limits.variables)) given.long in
    let all : All (IsRowWithin p.vars) (p.rows ++ (bounded.bounds ++ map blocking list)) =
    All-append (IsRowWithin p.vars) p.rows (bounded.bounds ++ map blocking list) (rows_within p problem)
    (All-append (IsRowWithin p.vars) bounded.bounds (map blocking list) bounds clauses) in
    let rows : All (IsRowWithin q.vars) q.rows = subst (λ (n : ℕ). All (IsRowWithin n) q.rows) (sym vars) (subst (All (IsRowWithin p.vars)) (sym bounded.rows) all) in
    let few = few_rows i p given.limits given.normal in
    let count = bounds_count p.costs (problem_vector i v) bounded.bounds bounded.are_bounds in
    let listed = length-map list blocking in
    let first = length-append p.rows (bounded.bounds ++ map blocking list) in
    let second = length-append bounded.bounds (map blocking list) in
    record {
      variables = omega (arith, vars, problem.variables);
      count = omega (arith, ap length bounded.rows, problem.objectives, given.few);
      objectives = omega (arith, ap length bounded.costs);
      normal_rows = λ k d short. (rows k d short).normal;
      row_variables = λ k d short. (rows k d short).fits.upto;
      row_sizes = λ k d short. (rows k d short).fits.small;
      cost_rows = subst (All (λ (r : CostRowValue). IsCostRow r.terms r.offset)) (sym bounded.costs) (All-nil (λ (r : CostRowValue). IsCostRow r.terms r.offset));
      cost_variables = subst (All (λ (r : CostRowValue). TermsUpTo q.vars r.terms)) (sym bounded.costs) (All-nil (λ (r : CostRowValue). TermsUpTo q.vars r.terms));
    }
