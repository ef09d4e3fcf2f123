-- Where the clause of a cut holds, no logged vector of its model is below the costs.
use Rattle.std.proofs.Common.{◌≡◌, ℕ, Bool, true, false, not, cond, List, [], ◌∷◌, map, refl, ap, subst, arith, ℤ, ◌≤ℤ◌}
use Rattle.std.specs.Prelude.{int_lt, ◌==◌, ◌&&◌}
use Rattle.std.specs.List.{All, AllZip, Contains, list_all}
use Rattle.std.proofs.lemmas.Bool.{and_parts, cond-false, not-true}
use Rattle.std.proofs.lemmas.Int.{ints}
use Rattle.std.proofs.lemmas.List.Elements.{All-nil, All-cons, All-contains, All-contains_itself, All-map, All-weaker}
use Rattle.scut_base.specs.Literal.{Literal}
use Rattle.scut_base.specs.Assignment.{lit_true, value_of}
use Rattle.scut_base.proofs.Lists.{Contains-from_map, sum_by_zero}
use Rattle.front_set.specs.Vector.{IsBelow, is_below}
use Rattle.pb_lin.specs.Constraint.{Holds, opposite, term_value, value}
use Rattle.pb_lin.specs.CostRow.{CostRowValue, row_cost}
use Rattle.pb_lin.specs.Problem.{ProblemValue, problem_costs}
use Rattle.proof_laws.specs.State.{StateValue}
use Rattle.proof_laws.specs.Steps.{clause}
use Rattle.proof_laws.specs.Refusal.{is_clause}
use Rattle.proof_laws.specs.declared.line.Line.{Line}
use Rattle.sum_outputs.specs.Adding.{KeptHold}
use Rattle.totalizer.specs.declared.bound.Bound.{Bound}
use Rattle.search_base.specs.Cutting.{IsAnswerAt, IsCutOf, answered_literals}
use Rattle.search_base.proofs.Answered.{row_of}

-- ---- clauses

ones_tested : (lits : List Literal) → list_all (λ (t : Literal × ℕ). t.1 == 1) (clause lits).terms ≡ true
ones_tested [] = refl
ones_tested (l ∷ lits) = ones_tested lits

pub clause_tested : (lits : List Literal) → is_clause (clause lits) ≡ true
clause_tested lits = ap (λ (b : Bool). b && true) (ones_tested lits)

-- a clause whose literals are all false doesn't hold
clause_fails : (y : List Bool) (lits : List Literal) → All (λ l. lit_true y l ≡ false) lits → Holds y (clause lits) → ⊥
clause_fails y lits all holds =
    let none : value y (clause lits).terms ≡ 0 = sum_by_zero (term_value y) (map (λ l. (l, 1)) lits)
    (All-map (λ t. term_value y t ≡ 0) (λ (l : Literal). (l, 1)) lits
    (All-weaker (λ (l : Literal). lit_true y l ≡ false) (λ (l : Literal). term_value y (l, 1) ≡ 0)
    (λ l e. cond-false (lit_true y l) 1 0 e) lits all)) in
    omega arith

opposite_false : (y : List Bool) (l : Literal) → lit_true y l ≡ true → lit_true y (opposite l) ≡ false
opposite_false y l = by l.neg (value_of y l.var)
  where
    by : (n b : Bool) → cond n (not b) b ≡ true → cond (not n) (not b) b ≡ false
    by true true e = cc
    by true false e = refl
    by false true e = refl
    by false false e = cc

-- ---- values

pub le_from_test : (x y : ℤ) → not (int_lt y x) ≡ true → x ≤ℤ y
le_from_test x y h = grind (arith, ints, not-true (int_lt y x) h)

pub costs_rise : (x y : List Bool) (rows : List CostRowValue) → IsBelow (map (row_cost x) rows) (map (row_cost y) rows) →
    All (λ r. row_cost x r ≤ℤ row_cost y r) rows
costs_rise x y [] below = All-nil (λ r. row_cost x r ≤ℤ row_cost y r)
costs_rise x y (r ∷ rows) below =
    let parts = and_parts (not (int_lt (row_cost y r) (row_cost x r)))
    (is_below (map (row_cost x) rows) (map (row_cost y) rows)) below in
    All-cons (λ q. row_cost x q ≤ℤ row_cost y q) r rows (le_from_test (row_cost x r) (row_cost y r) parts.0)
    (costs_rise x y rows parts.1)

-- ---- the cut

module _ (p : ProblemValue) (lines : List Line) (s : StateValue) (x : List Bool) (answers : List Bound)
    (cut : List Literal) (zip : AllZip (IsAnswerAt p lines s x (answered_literals answers)) p.costs answers)
    (exact : IsCutOf answers cut) (y : List Bool) (rows : All (Holds y) p.rows) (hold : KeptHold p lines s y)
    (below : IsBelow (problem_costs p x) (problem_costs p y)) where
  -- each literal that was answered is true
  answered_true : (l : Literal) → Contains (answered_literals answers) l → lit_true y l ≡ true
  answered_true l there =
      let has = row_of p lines s x (answered_literals answers) p.costs answers l zip there in
      has.bound.follows y rows hold
      (All-contains (λ (r : CostRowValue). row_cost x r ≤ℤ row_cost y r) p.costs has.row (costs_rise x y p.costs below)
      has.there)

  cut_false : (l : Literal) → Contains cut l → lit_true y l ≡ false
  cut_false l there =
      let from = Contains-from_map opposite (answered_literals answers) l ((exact.same l).0 there) in
      subst (λ (m : Literal). lit_true y m ≡ false) from.2 (opposite_false y from.0 (answered_true from.0 from.1))

  pub cut_fails : Holds y (clause cut) → ⊥
  cut_fails = clause_fails y cut
      (All-weaker (Contains cut) (λ (l : Literal). lit_true y l ≡ false) cut_false cut (All-contains_itself cut))
