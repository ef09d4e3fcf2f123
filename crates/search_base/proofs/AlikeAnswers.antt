-- No literals that are answered for the costs of a model are opposite, and none of these costs is too high.
use Rattle.std.proofs.Common.{◌≡◌, ◌⊎◌, ⊎_elim, inl, inr, ℕ, zero, suc, ◌<◌, ◌≤◌, Bool, true, false, not, cond, List, [], ◌∷◌, length, get_or, Some, refl, sym, ap, ◌∙◌, subst, arith, ℤ, pos, ◌+ℤ◌, ◌-ℤ◌, ◌≤ℤ◌, ◌<ℤ◌}
use Rattle.std.specs.List.{All, Contains}
use Rattle.std.proofs.lemmas.Bool.{cond-false}
use Rattle.std.proofs.lemmas.Int.{ints}
use Rattle.std.proofs.lemmas.List.{get_or-map, length-map}
use Rattle.std.proofs.lemmas.List.Elements.{All-contains, Contains-get_or}
use Rattle.std.proofs.lemmas.List.Sums.{sum_by-cons}
use Rattle.std.proofs.lemmas.Slice.Zip.{AllZip-long}
use Rattle.scut_base.specs.Literal.{Literal}
use Rattle.scut_base.specs.Assignment.{lit_true, value_of}
use Rattle.scut_base.proofs.Lists.{Contains-nil, Contains-cons_cases}
use Rattle.front_set.specs.Vector.{IsBelow}
use Rattle.instance_normal.proofs.Distinct.{literal}
use Rattle.pb_lin.specs.Constraint.{ConstraintValue, Holds, term_value, total, value}
use Rattle.pb_lin.specs.CostRow.{CostRowValue, row_cost}
use Rattle.pb_lin.specs.Problem.{ProblemValue, problem_costs}
use Rattle.proof_laws.specs.State.{StateValue}
use Rattle.proof_laws.specs.Refusal.{line_or_none}
use Rattle.proof_laws.specs.declared.line.Line.{Line}
use Rattle.proof_rules.specs.Recording.{Snapshot}
use Rattle.sum_outputs.specs.Adding.{IsReached, KeptHold}
use Rattle.totalizer.specs.Reforming.{IsLowerLine, IsReformOf}
use Rattle.totalizer.specs.declared.bound.Bound.{Bound}
use Rattle.totalizer.specs.declared.bound.Bound.TheVariants.{Always, Never, At}
use Rattle.totalizer.specs.declared.reform.Reform.{Reform}
use Rattle.search_base.specs.CostBounds.{BoundsRow, FitBounds, HasLiteral, IsAnswerFor, IsOutside, greatest_of, reforms_of}
use Rattle.search_base.specs.Cutting.{AreAlike, AreAsked, answered_literals}
use Rattle.search_base.specs.Pending.{AreOwnTerms}
use Rattle.search_base.specs.declared.objective_bound.ObjectiveBound.{ObjectiveBound}
use Rattle.search_base.proofs.Answered.{AllPossible, value_most}
use Rattle.search_base.proofs.BoundRows.{bound_at}
use Rattle.search_base.proofs.CutClauses.{costs_rise}

-- ---- places

pub some_at : (bounds : List ObjectiveBound) (i : ℕ) → i < length bounds → (o : ObjectiveBound) × (o ≡ get_or bounds i o)
some_at [] i short = absurd (omega arith)
some_at (o ∷ bounds) zero short = (o, refl)
some_at (o ∷ bounds) (suc i) short = some_at bounds i (omega arith)

-- where a literal is answered
literal_place : (answers : List Bound) (l : Literal) → Contains (answered_literals answers) l →
    (i : ℕ) × (i < length answers) × (id : ℕ) × (get_or answers i Never ≡ At l id)
literal_place [] l has = absurd (Contains-nil l has)
literal_place (Always id ∷ answers) l has =
    let at = literal_place answers l has in (suc at.0, let less = at.1 in omega arith, at.2, at.3)
literal_place (Never ∷ answers) l has =
    let at = literal_place answers l has in (suc at.0, let less = at.1 in omega arith, at.2, at.3)
literal_place (At m id ∷ answers) l has = elim (Contains-cons_cases m l (answered_literals answers) has) [
  | inl same ↦ (0, omega arith, id, ap (λ (k : Literal). At k id) same)
  | inr rest ↦ (let at = literal_place answers l rest in (suc at.0, let less = at.1 in omega arith, at.2, at.3))
]

-- ---- values

too_high : (v c low o : ℤ) (w t : ℕ) → (o +ℤ pos t) <ℤ v → v ≤ℤ c → c ≤ℤ (o +ℤ pos w) → w ≤ t → ⊥
too_high v c low o w t high le upper most = omega (arith, ints)

some_weight : (v c o : ℤ) (w : ℕ) → o <ℤ v → v ≤ℤ c → c ≤ℤ (o +ℤ pos w) → 0 < w
some_weight v c o w high le upper = omega (arith, ints)

term_true : (x : List Bool) (t : Literal × ℕ) → 0 < value x (t ∷ []) → lit_true x t.0 ≡ true
term_true x t some = by (lit_true x t.0) refl
  where
    by : (b : Bool) → lit_true x t.0 ≡ b → lit_true x t.0 ≡ true
    by true e = e
    by false e =
        let none : term_value x t ≡ 0 = cond-false (lit_true x t.0) t.1 0 e in
        let single = sum_by-cons (term_value x) t [] in
        absurd (omega arith)

same_signs : (b m n : Bool) → cond m (not b) b ≡ true → cond n (not b) b ≡ true → m ≡ n
same_signs true true true one other = refl
same_signs true true false one other = cc
same_signs true false true one other = cc
same_signs true false false one other = refl
same_signs false true true one other = refl
same_signs false true false one other = cc
same_signs false false true one other = cc
same_signs false false false one other = refl

-- ---- what reforms cost

-- no row costs more at y than its reform does
abbrev pub AreWithinReforms : Snapshot → StateValue → List ObjectiveBound → List Bool → Type 0
AreWithinReforms a s bounds y = (row : CostRowValue) (r : Reform) → Contains (reforms_of bounds) r →
    IsReformOf a.problem a.lines s row r → row_cost y row ≤ℤ (r.offset +ℤ pos (value y r.terms))

-- where the rows and the kept clauses hold
pub within_kept : (a : Snapshot) (s : StateValue) (bounds : List ObjectiveBound) (y : List Bool) →
    All (Holds y) a.problem.rows → KeptHold a.problem a.lines s y → AreWithinReforms a s bounds y
within_kept a s bounds y rows hold row r there is = is.upper y rows hold

no_gap : (v o : ℤ) → (pos 0 -ℤ pos 0) ≡ (v -ℤ o) → v ≤ℤ o
no_gap v o same = omega (arith, ints)

-- "0 >= 0" leaves no gap between a row and its reform
own_most : (p : ProblemValue) (lines : List Line) (s : StateValue) (row : CostRowValue) (r : Reform) (y : List Bool) →
    IsReformOf p lines s row r → r.lower_line ≡ 0 → row_cost y row ≤ℤ (r.offset +ℤ pos (value y r.terms))
own_most p lines s row r y is none =
    let lower = is.lower in
    let same : lower.0 ≡ record { terms = []; degree = 0 } =
    let e : Some lower.0 ≡ Some (record { terms = []; degree = 0 }) = sym lower.1
    ∙ ap (λ (id : ℕ). line_or_none s.live id) none in cc in
    no_gap (row_cost y row) (r.offset +ℤ pos (value y r.terms))
    (subst (λ (c : ConstraintValue). IsLowerLine row r.offset r.terms c) same lower.2 y)

-- and where all are in their own terms
pub within_own : (a : Snapshot) (s : StateValue) (bounds : List ObjectiveBound) (y : List Bool) → AreOwnTerms bounds →
    AreWithinReforms a s bounds y
within_own a s bounds y own row r there is = own_most a.problem a.lines s row r y is
    (All-contains (λ (q : Reform). q.lower_line ≡ 0) (reforms_of bounds) r own there)

-- ---- one assignment that makes all true

module _ (a : Snapshot) (s : StateValue) (reached : IsReached a s) (bounds : List ObjectiveBound) (x y : List Bool)
    (answers : List Bound) (fit : FitBounds a bounds) (most : AreWithinReforms a s bounds y)
    (below : IsBelow (problem_costs a.problem x) (problem_costs a.problem y))
    (count : length answers ≡ length a.problem.costs)
    (asked : AreAsked (reforms_of bounds) (problem_costs a.problem x) answers) where
  no_row : CostRowValue
  no_row = record { terms = []; offset = pos 0 }

  no_reform : Reform
  no_reform = record { offset = pos 0; terms = []; lower_line = 0; upper_line = 0 }

  abbrev row : ℕ → CostRowValue
  row i = get_or a.problem.costs i no_row

  abbrev reform : ℕ → Reform
  reform i = get_or (reforms_of bounds) i no_reform

  module _ (i : ℕ) (short : i < length answers) where
    within : i < length a.problem.costs
    within = omega arith

    reform_here : IsReformOf a.problem a.lines s (row i) (reform i)
    reform_here =
        let sizes = AllZip-long (BoundsRow a) a.problem.costs bounds fit.rows in
        let o = some_at bounds i (omega arith) in
        let at = bound_at a bounds i no_row o.0 fit within o.1 in
        let same : reform i ≡ o.0.reform =
        get_or-map (λ (q : ObjectiveBound). q.reform) bounds i o.0 no_reform (omega arith)
        ∙ sym (ap (λ (q : ObjectiveBound). q.reform) o.1) in
        subst (IsReformOf a.problem a.lines s (row i)) (sym same) (at.reform s reached)

    reform_there : Contains (reforms_of bounds) (reform i)
    reform_there =
        let sizes = length-map bounds (λ (o : ObjectiveBound). o.reform) in
        let zip = AllZip-long (BoundsRow a) a.problem.costs bounds fit.rows in
        Contains-get_or (reforms_of bounds) i no_reform (omega arith)

    reform_most : row_cost y (row i) ≤ℤ ((reform i).offset +ℤ pos (value y (reform i).terms))
    reform_most = most (row i) (reform i) reform_there reform_here

    -- the model costs no more than the assignment
    cost_most : row_cost x (row i) ≤ℤ row_cost y (row i)
    cost_most =
        All-contains (λ (r : CostRowValue). row_cost x r ≤ℤ row_cost y r) a.problem.costs (row i)
        (costs_rise x y a.problem.costs below) (Contains-get_or a.problem.costs i no_row within)

    answer_here : (b : Bound) → IsAnswerFor (reform i) (row_cost x (row i)) (get_or answers i b)
    answer_here b = subst (λ (v : ℤ). IsAnswerFor (reform i) v (get_or answers i b))
        (get_or-map (row_cost x) a.problem.costs i no_row (pos 0) within) (asked.each i no_reform (pos 0) b short).0

    literal_here : (b : Bound) → HasLiteral (reforms_of bounds) (reform i) (get_or answers i b)
    literal_here b = (asked.each i no_reform (pos 0) b short).1

  pub all_possible : AllPossible answers
  all_possible i b short never =
      let high : greatest_of (reform i) <ℤ row_cost x (row i) =
      subst (λ (c : Bound). IsAnswerFor (reform i) (row_cost x (row i)) c) never (answer_here i short b) in
      too_high (row_cost x (row i)) (row_cost y (row i)) (pos 0) (reform i).offset (value y (reform i).terms)
      (total (reform i).terms) high (cost_most i short) (reform_most i short) (value_most y (reform i).terms)

  -- a literal is true, and that of a reform's term; or it is positive, and of a variable in no term
  IsKnown : Literal → Type 0
  IsKnown l = ((lit_true y l ≡ true) × (r : Reform) × Contains (reforms_of bounds) r × (weight : ℕ)
      × (r.terms ≡ (l, weight) ∷ []))
      ⊎ ((l ≡ record { var = l.var; neg = false }) × IsOutside (reforms_of bounds) l.var)

  known : (l : Literal) → Contains (answered_literals answers) l → IsKnown l
  unfolding IsKnown
  known l has =
      let at = literal_place answers l has in
      let i = at.0 in
      let short = at.1 in
      let is : IsAnswerFor (reform i) (row_cost x (row i)) (At l at.2) =
      subst (λ (c : Bound). IsAnswerFor (reform i) (row_cost x (row i)) c) at.3 (answer_here i short Never) in
      let of : HasLiteral (reforms_of bounds) (reform i) (At l at.2) =
      subst (HasLiteral (reforms_of bounds) (reform i)) at.3 (literal_here i short Never) in
      ⊎_elim
      (λ (leaf : (weight : ℕ) × ((reform i).terms ≡ (l, weight) ∷ [])).
      let some = some_weight (row_cost x (row i)) (row_cost y (row i)) (reform i).offset (value y (reform i).terms) is.0
      (cost_most i short) (reform_most i short) in
      inl (
        term_true y (l, leaf.0) (subst (λ (ts : List (Literal × ℕ)). 0 < value y ts) leaf.1 some),
        reform i,
        reform_there i short,
        leaf.0,
        leaf.1,
      ))
      (λ (output : (1 < length (reform i).terms) × (l ≡ record { var = l.var; neg = false })
      × IsOutside (reforms_of bounds) l.var). inr (output.1, output.2))
      of

  apart : (l m : Literal) (r : Reform) (weight : ℕ) → Contains (reforms_of bounds) r → r.terms ≡ (l, weight) ∷ [] →
      IsOutside (reforms_of bounds) m.var → l.var ≡ m.var → ⊥
  apart l m r weight there single outside same =
      let none = All-contains (λ (q : Reform). All (λ t. t.0.var ≡ m.var → ⊥) q.terms) (reforms_of bounds) r outside there in
      let only = subst (λ (ts : List (Literal × ℕ)). All (λ t. t.0.var ≡ m.var → ⊥) ts) single none in
      only 0 (l, weight) (omega arith) same

  known_alike : (l m : Literal) → IsKnown l → IsKnown m → l.var ≡ m.var → l ≡ m
  unfolding IsKnown
  known_alike l m (inl one) (inl other) same =
      let again : cond m.neg (not (value_of y l.var)) (value_of y l.var) ≡ true =
      ap (λ (v : ℕ). cond m.neg (not (value_of y v)) (value_of y v)) same ∙ other.0 in
      literal l m same (same_signs (value_of y l.var) l.neg m.neg one.0 again)
  known_alike l m (inl one) (inr other) same = absurd (apart l m one.1 one.3 one.2 one.4 other.1 same)
  known_alike l m (inr one) (inl other) same = absurd (apart m l other.1 other.3 other.2 other.4 one.1 (sym same))
  known_alike l m (inr one) (inr other) same =
      literal l m same (ap (λ (k : Literal). k.neg) one.0 ∙ sym (ap (λ (k : Literal). k.neg) other.0))

  pub all_alike : AreAlike (answered_literals answers)
  all_alike l m l_in m_in same = known_alike l m (known l l_in) (known m m_in) same
