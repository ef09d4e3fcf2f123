-- The normal form of an instance is within the limits of problems.
use Rattle.std.proofs.Common.{◌≡◌, ℕ, ◌+◌, ◌*◌, ◌≤◌, ◌^◌, Bool, true, false, cond, List, [], ◌∷◌, ◌++◌, length, map, filter, fold, sum_by, refl, length-append, ℤ, arith}
use Rattle.std.specs.Prelude.{◌||◌, ◌==◌, All}
use Rattle.std.specs.List.{AllZip, flat_map, list_all}
use Rattle.std.proofs.lemmas.List.{length-map}
use Rattle.std.proofs.lemmas.List.Elements.{All-nil, All-cons, All-head, All-tail, All-append, All-map, All-weaker}
use Rattle.std.proofs.lemmas.List.Sums.{sum_by-cons, length-filter, count_by-le-length}
use Rattle.std.proofs.lemmas.Slice.Zip.{AllZip-long}
use Rattle.scut_base.specs.Literal.{Literal, is_same}
use Rattle.instance.specs.declared.row.Linear.{Linear}
use Rattle.instance.specs.declared.row.Rel.{Rel}
use Rattle.instance.specs.declared.row.Rel.TheVariants.{AtLeast, AtMost, Equal}
use Rattle.instance.specs.declared.objective.Objective.{Objective}
use Rattle.instance.specs.declared.objective.Soft.{Soft}
use Rattle.instance.specs.Shape.{InstanceValue, IsWithinLimits, IsObjectiveWithin, ClauseUpTo}
use Rattle.instance.specs.ParetoFront.{problem_number}
use Rattle.pb_lin.specs.Constraint.{ConstraintValue, IsNormal, TermsUpTo, size, opposite}
use Rattle.pb_lin.specs.CostRow.{CostRowValue, IsCostRow}
use Rattle.pb_lin.specs.Problem.{ProblemValue, IsProblem}
use Rattle.instance_normal.specs.NormalForm.{RowSource, Clause, IsRowOf, Payment, Never, Always, Where, Relaxed, clause_payment, payment, needs_variable, is_relaxed, is_tautology, next_variable, payment_terms, soft_terms, relaxed_softs, relaxed_clauses, linear_sources, sources_by, row_sources, CostSource, cost_source, cost_sources, first_seen, with_variable, IsCostRowOf, IsNormalFormOf}
use Rattle.instance_normal.specs.Fitting.{Fits}
use Rattle.instance_normal.proofs.Members.{all_unmapped}
use Rattle.instance_normal.proofs.Merging.{some_members, all_with}
use Rattle.instance_normal.proofs.Costs.{relaxed_of}

-- ---- counts

pub few_relaxed : (os : List Objective) → length (relaxed_of os) ≤ sum_by (λ o. length o.softs) os
few_relaxed [] = omega arith
few_relaxed (o ∷ os) = omega (arith, few_relaxed os, length-append (filter is_relaxed o.softs) (relaxed_of os), length-filter is_relaxed o.softs, count_by-le-length is_relaxed o.softs, sum_by-cons (λ (x : Objective). length x.softs) o os)

two_at_most : (rel : Rel) (row : Linear) → length (sources_by rel row) ≤ 2
two_at_most AtLeast row = omega arith
two_at_most AtMost row = omega arith
two_at_most Equal row = omega arith

linear_count : (rows : List Linear) → length (flat_map linear_sources rows) ≤ 2 * length rows
linear_count [] = omega arith
linear_count (row ∷ rows) = omega (arith, linear_count rows, two_at_most row.rel row, length-append (linear_sources row) (flat_map linear_sources rows))

relaxed_clause_count : (var : ℕ) (softs : List Soft) → length (relaxed_clauses var softs) ≡ length softs
relaxed_clause_count var [] = refl
relaxed_clause_count var (s ∷ softs) = omega (arith, relaxed_clause_count (var + 1) softs)

cost_count : (var : ℕ) (os : List Objective) → length (cost_sources var os) ≡ length os
cost_count var [] = refl
cost_count var (o ∷ os) = omega (arith, cost_count (var + length (filter is_relaxed o.softs)) os)

-- ---- rows

all_normal : (ss : List RowSource) (cs : List ConstraintValue) → AllZip IsRowOf ss cs → All (λ c. IsNormal c.terms c.degree) cs
all_normal [] [] zipped = All-nil (λ c. IsNormal c.terms c.degree)
all_normal [] (c ∷ cs) zipped = absurd zipped
all_normal (s ∷ ss) [] zipped = absurd zipped
all_normal (s ∷ ss) (c ∷ cs) zipped = All-cons (λ (x : ConstraintValue). IsNormal x.terms x.degree) c cs zipped.0.normal (all_normal ss cs zipped.1)

-- ---- costs

all_cost_rows : (ss : List CostSource) (rs : List CostRowValue) → AllZip IsCostRowOf ss rs → All (λ r. IsCostRow r.terms r.offset) rs
all_cost_rows [] [] zipped = All-nil (λ r. IsCostRow r.terms r.offset)
all_cost_rows [] (r ∷ rs) zipped = absurd zipped
all_cost_rows (s ∷ ss) [] zipped = absurd zipped
all_cost_rows (s ∷ ss) (r ∷ rs) zipped = All-cons (λ (x : CostRowValue). IsCostRow x.terms x.offset) r rs zipped.0.row (all_cost_rows ss rs zipped.1)

seen_upto : (n : ℕ) (seen vars : List ℕ) → All (λ v. v ≤ n) seen → All (λ v. v ≤ n) vars → All (λ v. v ≤ n) (fold with_variable seen vars)
seen_upto n seen [] all upto = all
seen_upto n seen (v ∷ vars) all upto = seen_upto n (with_variable seen v) vars (all_with (λ x. x ≤ n) seen v all (All-head (λ x. x ≤ n) v vars upto)) (All-tail (λ x. x ≤ n) v vars upto)

row_upto : (n : ℕ) (s : CostSource) (r : CostRowValue) → IsCostRowOf s r → All (λ t. t.1.var ≤ n) s.terms → TermsUpTo n r.terms
row_upto n s r is upto = all_unmapped (λ v. v ≤ n) (λ (t : Literal × ℕ). t.0.var) r.terms (some_members (λ v. v ≤ n) (map (λ t. t.0.var) r.terms) (first_seen s.terms) is.order (seen_upto n [] (map (λ t. t.1.var) s.terms) (All-nil (λ v. v ≤ n)) (All-map (λ v. v ≤ n) (λ (t : ℤ × Literal). t.1.var) s.terms upto)))

-- the literal of a payment is one of the clause's variables
abbrev PaysUpTo : ℕ → Payment → Type 0
PaysUpTo n Never = Unit {0}
PaysUpTo n Always = Unit {0}
PaysUpTo n (Where l) = l.var ≤ n
PaysUpTo n Relaxed = Unit {0}

clause_pays : (n : ℕ) (lits : List Literal) → ClauseUpTo n lits → PaysUpTo n (clause_payment lits)
clause_pays n [] upto = tt
clause_pays n (l ∷ lits) upto = by (list_all (is_same l) lits)
  where
    by : (b : Bool) → PaysUpTo n (cond b (Where (opposite l)) Relaxed)
    by true = All-head (λ k. k.var ≤ n) l lits upto
    by false = tt

pays : (n : ℕ) (s : Soft) → ClauseUpTo n s.lits → PaysUpTo n (payment s)
pays n s upto = by (s.weight == 0 || is_tautology s.lits)
  where
    by : (b : Bool) → PaysUpTo n (cond b Never (clause_payment s.lits))
    by true = tt
    by false = clause_pays n s.lits upto

softs_upto : (n m var : ℕ) (softs : List Soft) → n ≤ m → All (λ s. ClauseUpTo n s.lits) softs → var + length (filter is_relaxed softs) ≤ m + 1 → All (λ t. t.1.var ≤ m) (soft_terms var softs)
softs_upto n m var [] le within room = All-nil (λ t. t.1.var ≤ m)
softs_upto n m var (s ∷ softs) le within room = by (payment s) (pays n s (All-head (λ (x : Soft). ClauseUpTo n x.lits) s softs within)) (λ v rest. softs_upto n m v softs le (All-tail (λ (x : Soft). ClauseUpTo n x.lits) s softs within) rest) room
  where
    by : (p : Payment) → PaysUpTo n p → ((v : ℕ) → v + length (filter is_relaxed softs) ≤ m + 1 → All (λ t. t.1.var ≤ m) (soft_terms v softs)) → var + length (cond (needs_variable p) (s ∷ filter is_relaxed softs) (filter is_relaxed softs)) ≤ m + 1 → All (λ t. t.1.var ≤ m) (payment_terms var s.weight p ++ soft_terms (next_variable var p) softs)
    by Never low rest r = rest var r
    by Always low rest r = rest var r
    by (Where l) low rest r = All-cons (λ (t : ℤ × Literal). t.1.var ≤ m) _ (soft_terms var softs) (omega arith) (rest var r)
    by Relaxed low rest r = All-cons (λ (t : ℤ × Literal). t.1.var ≤ m) _ (soft_terms (var + 1) softs) (omega arith) (rest (var + 1) (omega arith))

source_upto : (n m var : ℕ) (o : Objective) → n ≤ m → IsObjectiveWithin n o → var + length (filter is_relaxed o.softs) ≤ m + 1 → All (λ t. t.1.var ≤ m) (cost_source var o).terms
source_upto n m var o le within room = All-append (λ (t : ℤ × Literal). t.1.var ≤ m) (soft_terms var o.softs) (map (λ t. (problem_number o.sense t.0, t.1)) o.terms) (softs_upto n m var o.softs le within.clauses room) (All-map (λ (t : ℤ × Literal). t.1.var ≤ m) (λ (t : ℤ × Literal). (problem_number o.sense t.0, t.1)) o.terms (All-weaker (λ (t : ℤ × Literal). t.1.var ≤ n) (λ (t : ℤ × Literal). t.1.var ≤ m) (λ t low. omega arith) o.terms within.variables))

costs_upto : (n m var : ℕ) (os : List Objective) (rs : List CostRowValue) → n ≤ m → All (IsObjectiveWithin n) os → var + length (relaxed_of os) ≤ m + 1 → AllZip IsCostRowOf (cost_sources var os) rs → All (λ r. TermsUpTo m r.terms) rs
costs_upto n m var [] [] le within room zipped = All-nil (λ r. TermsUpTo m r.terms)
costs_upto n m var [] (r ∷ rs) le within room zipped = absurd zipped
costs_upto n m var (o ∷ os) [] le within room zipped = absurd zipped
costs_upto n m var (o ∷ os) (r ∷ rs) le within room zipped =
    let sum = length-append (filter is_relaxed o.softs) (relaxed_of os) in
    All-cons (λ (x : CostRowValue). TermsUpTo m x.terms) r rs
    (row_upto m (cost_source var o) r zipped.0 (source_upto n m var o le (All-head (IsObjectiveWithin n) o os within) (omega arith)))
    (costs_upto n m (var + length (filter is_relaxed o.softs)) os rs le (All-tail (IsObjectiveWithin n) o os within) (omega arith) zipped.1)

-- ---- the whole

pub problem_within : (i : InstanceValue) (p : ProblemValue) → IsWithinLimits i → IsNormalFormOf i p → All (Fits p.vars) p.rows → IsProblem p
problem_within i p limits form fits =
    let relaxed = few_relaxed i.objectives in
    let rows = AllZip-long IsRowOf (row_sources i) p.rows form.rows in
    let costs = AllZip-long IsCostRowOf (cost_sources (i.vars + 1) i.objectives) p.costs form.costs in
    let first = length-append (map Clause i.clauses ++ flat_map linear_sources i.linear) (relaxed_clauses (i.vars + 1) (relaxed_softs i)) in
    let second = length-append (map Clause i.clauses) (flat_map linear_sources i.linear) in
    let clauses = length-map i.clauses Clause in
    record {
      variables = omega (arith, form.vars, limits.variables, limits.size);
      count = omega (arith, linear_count i.linear, relaxed_clause_count (i.vars + 1) (relaxed_softs i), limits.size);
      objectives = omega (arith, cost_count (i.vars + 1) i.objectives, limits.count);
      normal_rows = all_normal (row_sources i) p.rows form.rows;
      row_variables = All-weaker (Fits p.vars) (λ (c : ConstraintValue). TermsUpTo p.vars c.terms) (λ c is. is.upto) p.rows fits;
      row_sizes = All-weaker (Fits p.vars) (λ (c : ConstraintValue). size c ≤ 2 ^ 66) (λ c is. is.small) p.rows fits;
      cost_rows = all_cost_rows (cost_sources (i.vars + 1) i.objectives) p.costs form.costs;
      cost_variables = costs_upto i.vars p.vars (i.vars + 1) i.objectives p.costs (omega (arith, form.vars)) limits.objectives (omega (arith, form.vars)) form.costs;
    }
