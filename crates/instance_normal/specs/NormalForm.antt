-- The normal form of an instance: the problem of constraints in normal form, and of sums to be minimised, that stands for it.
use Rattle.std.specs.Prelude.{◌≡◌, ◌↔◌, ℕ, ◌+◌, ◌<◌, ◌==◌, ◌||◌, Bool, true, false, if◌then◌else◌, MatchBool, List, [], ◌∷◌, ◌++◌, length, map, fold, sum_by, ℤ, pos, ◌+ℤ◌, neg_ℤ, AllPairs, Contains}
use Rattle.std.specs.List.{AllZip, filter, flat_map, list_any, list_all}
use Rattle.scut_base.specs.Literal.{Literal, is_same}
use Rattle.instance.specs.declared.row.Linear.{Linear}
use Rattle.instance.specs.declared.row.Rel.{Rel}
use Rattle.instance.specs.declared.row.Rel.TheVariants.{AtLeast, AtMost, Equal}
use Rattle.instance.specs.declared.objective.Soft.{Soft}
use Rattle.instance.specs.declared.objective.Objective.{Objective}
use Rattle.instance.specs.Shape.{InstanceValue}
use Rattle.instance.specs.ParetoFront.{problem_number}
use Rattle.pb_lin.specs.Constraint.{ConstraintValue, IsNormal, opposite, ones}
use Rattle.pb_lin.specs.NormalForm.{IsNormalForm, sum_value}
use Rattle.pb_lin.specs.CostRow.{CostRowValue, IsCostRow, row_cost}
use Rattle.pb_lin.specs.Problem.{ProblemValue}
use Rattle.pb_lin.specs.Restriction.{is_among}

-- ---- rows

-- what a row is made from: a clause, or a sum that is at least a bound
pub data RowSource : Type 0 where
  Clause : List Literal → RowSource
  Sum : List (ℤ × Literal) → ℤ → RowSource

-- whether a literal stands there beside its opposite
abbrev pub is_tautology : List Literal → Bool
is_tautology lits = list_any (λ l. is_among lits (opposite l)) lits

-- 0 >= 0
abbrev pub trivial_row : ConstraintValue
trivial_row = record { terms = []; degree = 0 }

-- the literals of a clause, each once, in rising order of variables
pub record AreDistinct (lits distinct : List Literal) : Type 0 where
  pub rising : AllPairs (λ l m. l.var < m.var) distinct
  pub same : (l : Literal) → Contains distinct l ↔ Contains lits l

-- at least one of the clause's distinct literals, each with the coefficient 1
pub record IsClauseRow (lits : List Literal) (c : ConstraintValue) : Type 0 where
  pub distinct : List Literal
  pub literals : AreDistinct lits distinct
  pub row : c ≡ record { terms = ones distinct; degree = 1 }

-- A clause with opposite literals says nothing, but keeps its place.
abbrev pub SaysWhat : RowSource → ConstraintValue → Type 0
SaysWhat (Clause lits) c = MatchBool (is_tautology lits) (c ≡ trivial_row) (IsClauseRow lits c)
SaysWhat (Sum terms bound) c = IsNormalForm c terms bound

-- the row, in normal form, of what it is made from
pub record IsRowOf (s : RowSource) (c : ConstraintValue) : Type 0 where
  pub normal : IsNormal c.terms c.degree
  pub says : SaysWhat s c

abbrev pub at_least : Linear → RowSource
at_least row = Sum row.terms row.bound

-- with both sides negated
abbrev pub at_most : Linear → RowSource
at_most row = Sum (map (λ t. (neg_ℤ t.0, t.1)) row.terms) (neg_ℤ row.bound)

abbrev pub sources_by : Rel → Linear → List RowSource
sources_by AtLeast row = at_least row ∷ []
sources_by AtMost row = at_most row ∷ []
sources_by Equal row = at_least row ∷ at_most row ∷ []

abbrev pub linear_sources : Linear → List RowSource
linear_sources row = sources_by row.rel row

-- ---- soft clauses

-- how a soft clause is paid for
pub data Payment : Type 0 where
  -- never
  Never : Payment
  -- always
  Always : Payment
  -- where this literal is true
  Where : Literal → Payment
  -- where a variable of its own is true, which its row asks for where the clause is false
  Relaxed : Payment

-- of a clause by its distinct literals: none, one or more
abbrev pub clause_payment : List Literal → Payment
clause_payment [] = Always
clause_payment (l ∷ lits) = if list_all (is_same l) lits then Where (opposite l) else Relaxed

abbrev pub payment : Soft → Payment
payment s = if s.weight == 0 || is_tautology s.lits then Never else clause_payment s.lits

abbrev pub needs_variable : Payment → Bool
needs_variable Relaxed = true
needs_variable paid = false

abbrev pub is_relaxed : Soft → Bool
is_relaxed s = needs_variable (payment s)

-- the soft clauses that need a relaxation variable, by objective and in order
abbrev pub relaxed_softs : InstanceValue → List Soft
relaxed_softs i = flat_map (λ o. filter is_relaxed o.softs) i.objectives

abbrev pub positive : ℕ → Literal
positive var = record { var = var; neg = false }

-- each with a variable of its own, from this one on
abbrev pub relaxed_clauses : ℕ → List Soft → List RowSource
relaxed_clauses var [] = []
relaxed_clauses var (s ∷ softs) = Clause (s.lits ++ positive var ∷ []) ∷ relaxed_clauses (var + 1) softs

-- the hard clauses, the linear rows, and the soft clauses that need a relaxation variable
abbrev pub row_sources : InstanceValue → List RowSource
row_sources i = map Clause i.clauses ++ flat_map linear_sources i.linear ++ relaxed_clauses (i.vars + 1) (relaxed_softs i)

-- ---- costs

-- what a cost row is made from
pub record CostSource : Type 0 where
  pub terms : List (ℤ × Literal)
  pub offset : ℤ

-- the terms that a payment adds, where this is its relaxation variable
abbrev pub payment_terms : ℕ → ℕ → Payment → List (ℤ × Literal)
payment_terms var weight Never = []
payment_terms var weight Always = []
payment_terms var weight (Where l) = (pos weight, l) ∷ []
payment_terms var weight Relaxed = (pos weight, positive var) ∷ []

-- what a payment adds to the offset
abbrev pub payment_offset : ℕ → Payment → ℕ
payment_offset weight Always = weight
payment_offset weight paid = 0

-- the relaxation variable that comes next
abbrev pub next_variable : ℕ → Payment → ℕ
next_variable var Relaxed = var + 1
next_variable var paid = var

abbrev pub soft_terms : ℕ → List Soft → List (ℤ × Literal)
soft_terms var [] = []
soft_terms var (s ∷ softs) = payment_terms var s.weight (payment s) ++ soft_terms (next_variable var (payment s)) softs

abbrev pub soft_offset : List Soft → ℕ
soft_offset softs = sum_by (λ s. payment_offset s.weight (payment s)) softs

-- the terms of the soft clauses and then those of the objective; those of a maximised objective are negated
abbrev pub cost_source : ℕ → Objective → CostSource
cost_source var o = record {
  terms = soft_terms var o.softs ++ map (λ t. (problem_number o.sense t.0, t.1)) o.terms;
  offset = pos (soft_offset o.softs) +ℤ problem_number o.sense o.offset;
}

abbrev pub cost_sources : ℕ → List Objective → List CostSource
cost_sources var [] = []
cost_sources var (o ∷ os) = cost_source var o ∷ cost_sources (var + length (filter is_relaxed o.softs)) os

-- a variable at the end, where it isn't there yet
abbrev pub with_variable : List ℕ → ℕ → List ℕ
with_variable seen var = if list_any (λ v. var == v) seen then seen else seen ++ var ∷ []

-- the variables of terms, in the order in which they are first seen
abbrev pub first_seen : List (ℤ × Literal) → List ℕ
first_seen terms = fold with_variable [] (map (λ t. t.1.var) terms)

-- the numbers are those of a list, in order, but for some that are left out
abbrev pub AreSomeOf : List ℕ → List ℕ → Type 0
AreSomeOf [] all = Unit {0}
AreSomeOf (n ∷ some) [] = ⊥
AreSomeOf (n ∷ some) (m ∷ all) = MatchBool (n == m) (AreSomeOf some all) (AreSomeOf (n ∷ some) all)

-- the same sum in positive coefficients on distinct variables, in the order in which they are first seen
pub record IsCostRowOf (s : CostSource) (r : CostRowValue) : Type 0 where
  pub row : IsCostRow r.terms r.offset
  pub value : (a : List Bool) → row_cost a r ≡ sum_value a s.terms +ℤ s.offset
  pub order : AreSomeOf (map (λ t. t.0.var) r.terms) (first_seen s.terms)

-- ---- the problem

-- the problem is the normal form of the instance
pub record IsNormalFormOf (i : InstanceValue) (p : ProblemValue) : Type 0 where
  pub vars : p.vars ≡ i.vars + length (relaxed_softs i)
  pub rows : AllZip IsRowOf (row_sources i) p.rows
  pub costs : AllZip IsCostRowOf (cost_sources (i.vars + 1) i.objectives) p.costs
