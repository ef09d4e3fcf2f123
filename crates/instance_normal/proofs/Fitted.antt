-- Each row of a normal form is within the limits of problems.
use Rattle.std.proofs.Common.{◌≡◌, ℕ, ◌+◌, ◌^◌, ◌<◌, ◌≤◌, Bool, true, false, List, [], ◌∷◌, ◌++◌, length, map, sym, subst, ap, ℤ, neg_ℤ, unsigned_abs, arith}
use Rattle.std.specs.Prelude.{All, AllPairs, MatchBool}
use Rattle.std.specs.List.{AllZip, flat_map}
use Rattle.std.proofs.lemmas.Int.{ints}
use Rattle.std.proofs.lemmas.List.Elements.{All-nil, All-cons, All-head, All-tail, All-append, All-push, All-map, All-weaker}
use Rattle.scut_base.specs.Literal.{Literal}
use Rattle.instance.specs.declared.row.Linear.{Linear}
use Rattle.instance.specs.declared.row.Rel.{Rel}
use Rattle.instance.specs.declared.row.Rel.TheVariants.{AtLeast, AtMost, Equal}
use Rattle.instance.specs.declared.objective.Soft.{Soft}
use Rattle.instance.specs.Shape.{InstanceValue, IsWithinLimits, IsRowWithin, ClauseUpTo, TermsUpTo}
use Rattle.pb_lin.specs.Constraint.{ConstraintValue, UpTo, size}
use Rattle.pb_lin.specs.NormalForm.{magnitude}
use Rattle.pb_lin.specs.Problem.{ProblemValue, IsProblem}
use Rattle.pb_lin.proofs.Merges.{rising_head, rising_tail}
use Rattle.instance_normal.specs.NormalForm.{RowSource, Clause, Sum, IsRowOf, IsClauseRow, trivial_row, is_tautology, positive, at_least, at_most, sources_by, linear_sources, relaxed_clauses, relaxed_softs, row_sources, IsNormalFormOf}
use Rattle.instance_normal.specs.Fitting.{Fits}
use Rattle.instance_normal.proofs.Distinct.{clause_fits, members_upto}
use Rattle.instance_normal.proofs.Members.{all_flattened}
use Rattle.instance_normal.proofs.Models.{relaxed_upto}
use Rattle.instance_normal.proofs.Sizes.{sum_fits, negated_magnitude, negated_upto}
use Rattle.instance_normal.proofs.Within.{few_relaxed, problem_within}

-- ---- one row

trivial_fits : (n : ℕ) (c : ConstraintValue) → c ≡ trivial_row → Fits n c
trivial_fits n c row = record {
  upto = subst (UpTo n) (sym row) (All-nil (λ (t : Literal × ℕ). t.0.var ≤ n));
  small = omega (arith, ap size row);
}

-- of rising variables from v to n there are no more than numbers
few_rising : (n v : ℕ) (ts : List (Literal × ℕ)) → v ≤ n + 1 → All (λ t. v ≤ t.0.var) ts → AllPairs (λ s t. s.0.var < t.0.var) ts → All (λ t. t.0.var ≤ n) ts → length ts + v ≤ n + 1
few_rising n v [] room from rising upto = omega arith
few_rising n v (t ∷ ts) room from rising upto =
    let low : v ≤ t.0.var = All-head (λ (s : Literal × ℕ). v ≤ s.0.var) t ts from in
    let high : t.0.var ≤ n = All-head (λ (s : Literal × ℕ). s.0.var ≤ n) t ts upto in
    let above = All-weaker (λ (s : Literal × ℕ). t.0.var < s.0.var) (λ (s : Literal × ℕ). t.0.var + 1 ≤ s.0.var) (λ s less. omega arith) ts (rising_head t ts rising) in
    let rest = few_rising n (t.0.var + 1) ts (omega arith) above (rising_tail t ts rising) (All-tail (λ (s : Literal × ℕ). s.0.var ≤ n) t ts upto) in
    omega arith

-- what the row is made from is over n variables, and small
abbrev SourceWithin : ℕ → RowSource → Type 0
SourceWithin n (Clause lits) = ClauseUpTo n lits
SourceWithin n (Sum terms bound) = (magnitude terms bound < 2 ^ 63) × All (λ t. 0 < t.1.var) terms × TermsUpTo n terms

row_fits : (n : ℕ) (s : RowSource) (c : ConstraintValue) → n < 2 ^ 33 → SourceWithin n s → IsRowOf s c → Fits n c
row_fits n (Clause lits) c low within is = by (is_tautology lits) is.says
  where
    by : (b : Bool) → MatchBool b (c ≡ trivial_row) (IsClauseRow lits c) → Fits n c
    by true row = trivial_fits n c row
    by false row =
        let members : ClauseUpTo n row.distinct = members_upto n lits row.distinct row.literals within in
        let upto : UpTo n c = subst (UpTo n) (sym row.row) (All-map (λ (t : Literal × ℕ). t.0.var ≤ n) (λ (l : Literal). (l, 1)) row.distinct members) in
        let few = few_rising n 0 c.terms (omega arith) (λ k d short. omega arith) is.normal.merged.rising upto in
        clause_fits n row.distinct c row.row (omega arith) members
row_fits n (Sum terms bound) c low within is = sum_fits n terms bound c is.normal is.says within.0 within.1 within.2

rows_fit : (n : ℕ) (ss : List RowSource) (cs : List ConstraintValue) → n < 2 ^ 33 → All (SourceWithin n) ss → AllZip IsRowOf ss cs → All (Fits n) cs
rows_fit n [] [] low within zipped = All-nil (Fits n)
rows_fit n [] (c ∷ cs) low within zipped = absurd zipped
rows_fit n (s ∷ ss) [] low within zipped = absurd zipped
rows_fit n (s ∷ ss) (c ∷ cs) low within zipped = All-cons (Fits n) c cs (row_fits n s c low (All-head (SourceWithin n) s ss within) zipped.0) (rows_fit n ss cs low (All-tail (SourceWithin n) s ss within) zipped.1)

-- ---- what rows are made from

least_within : (n : ℕ) (row : Linear) → IsRowWithin n row → SourceWithin n (at_least row)
least_within n row within = (within.magnitude, within.from_one, within.variables)

most_within : (n : ℕ) (row : Linear) → IsRowWithin n row → SourceWithin n (at_most row)
most_within n row within = (
  (let bound : unsigned_abs (neg_ℤ row.bound) ≡ unsigned_abs row.bound = omega (arith, ints) in omega (arith, within.magnitude, negated_magnitude row.terms)),
  All-map (λ (t : ℤ × Literal). 0 < t.1.var) (λ (t : ℤ × Literal). (neg_ℤ t.0, t.1)) row.terms within.from_one,
  negated_upto n row.terms within.variables,
)

linear_within : (n : ℕ) (row : Linear) → IsRowWithin n row → All (SourceWithin n) (linear_sources row)
linear_within n row within = by row.rel
  where
    one : (s : RowSource) → SourceWithin n s → All (SourceWithin n) (s ∷ [])
    one s p = All-cons (SourceWithin n) s [] p (All-nil (SourceWithin n))

    by : (rel : Rel) → All (SourceWithin n) (sources_by rel row)
    by AtLeast = one (at_least row) (least_within n row within)
    by AtMost = one (at_most row) (most_within n row within)
    by Equal = All-cons (SourceWithin n) (at_least row) (at_most row ∷ []) (least_within n row within) (one (at_most row) (most_within n row within))

clause_wider : (m n : ℕ) (lits : List Literal) → m ≤ n → ClauseUpTo m lits → ClauseUpTo n lits
clause_wider m n lits le upto = All-weaker (λ (l : Literal). l.var ≤ m) (λ (l : Literal). l.var ≤ n) (λ l low. omega arith) lits upto

row_wider : (m n : ℕ) (row : Linear) → m ≤ n → IsRowWithin m row → IsRowWithin n row
row_wider m n row le within = record {
  variables = All-weaker (λ (t : ℤ × Literal). t.1.var ≤ m) (λ (t : ℤ × Literal). t.1.var ≤ n) (λ t low. omega arith) row.terms within.variables;
  from_one = within.from_one;
  magnitude = within.magnitude;
}

relaxed_within : (m n var : ℕ) (softs : List Soft) → m ≤ n → All (λ s. ClauseUpTo m s.lits) softs → var + length softs ≤ n + 1 → All (SourceWithin n) (relaxed_clauses var softs)
relaxed_within m n var [] le within room = All-nil (SourceWithin n)
relaxed_within m n var (s ∷ softs) le within room =
    let own : ClauseUpTo n s.lits = clause_wider m n s.lits le (All-head (λ (x : Soft). ClauseUpTo m x.lits) s softs within) in
    All-cons (SourceWithin n) (Clause (s.lits ++ positive var ∷ [])) (relaxed_clauses (var + 1) softs)
    (All-push (λ (l : Literal). l.var ≤ n) s.lits (positive var) own (omega arith))
    (relaxed_within m n (var + 1) softs le (All-tail (λ (x : Soft). ClauseUpTo m x.lits) s softs within) (omega arith))

sources_within : (i : InstanceValue) (n : ℕ) → IsWithinLimits i → n ≡ i.vars + length (relaxed_softs i) → All (SourceWithin n) (row_sources i)
sources_within i n limits is =
    let wider : i.vars ≤ n = omega arith in
    All-append (SourceWithin n) (map Clause i.clauses ++ flat_map linear_sources i.linear) (relaxed_clauses (i.vars + 1) (relaxed_softs i))
    (All-append (SourceWithin n) (map Clause i.clauses) (flat_map linear_sources i.linear)
    (All-map (SourceWithin n) Clause i.clauses (All-weaker (ClauseUpTo i.vars) (ClauseUpTo n) (λ lits upto. clause_wider i.vars n lits wider upto) i.clauses limits.clauses))
    (all_flattened (SourceWithin n) linear_sources i.linear
    (All-weaker (IsRowWithin i.vars) (λ row. All (SourceWithin n) (linear_sources row))
    (λ row within. linear_within n row (row_wider i.vars n row wider within)) i.linear limits.rows)))
    (relaxed_within i.vars n (i.vars + 1) (relaxed_softs i) wider (relaxed_upto i.vars i.objectives limits.objectives) (omega arith))

-- ---- the whole

pub form_within : (i : InstanceValue) (p : ProblemValue) → IsWithinLimits i → IsNormalFormOf i p → IsProblem p
form_within i p limits form =
    problem_within i p limits form (rows_fit p.vars (row_sources i) p.rows (omega (arith, form.vars, few_relaxed i.objectives, limits.variables, limits.size)) (sources_within i p.vars limits form.vars) form.rows)
