-- Models of an instance, and their costs.
use Rattle.std.specs.Prelude.{◌≡◌, Bool, true, not, if◌then◌else◌, List, [], ◌∷◌, length, map, ℤ, pos, ◌+ℤ◌, int_lt}
use Rattle.std.specs.List.{list_any, list_all}
use Rattle.std.specs.Ordering.{int_eq}
use Rattle.scut_base.specs.Literal.{Literal}
use Rattle.scut_base.specs.Assignment.{lit_true}
use Rattle.instance.specs.declared.row.Linear.{Linear}
use Rattle.instance.specs.declared.row.Rel.{Rel}
use Rattle.instance.specs.declared.row.Rel.TheVariants.{AtLeast, AtMost, Equal}
use Rattle.instance.specs.declared.objective.Soft.{Soft}
use Rattle.instance.specs.declared.objective.Objective.{Objective}
use Rattle.instance.specs.Shape.{InstanceValue}

-- a clause is true where one of its literals is
abbrev pub clause_true : List Bool → List Literal → Bool
clause_true a clause = list_any (lit_true a) clause

abbrev pub int_sum_by : {X : Type 0} → (X → ℤ) → List X → ℤ
int_sum_by f [] = pos 0
int_sum_by f (x ∷ xs) = f x +ℤ int_sum_by f xs

-- the coefficient of a true literal, and 0 for a false one
abbrev pub term_value : List Bool → ℤ × Literal → ℤ
term_value a t = if lit_true a t.1 then t.0 else pos 0

abbrev pub terms_value : List Bool → List (ℤ × Literal) → ℤ
terms_value a terms = int_sum_by (term_value a) terms

abbrev pub relates : Rel → ℤ → ℤ → Bool
relates AtLeast value bound = not (int_lt value bound)
relates AtMost value bound = not (int_lt bound value)
relates Equal value bound = int_eq value bound

abbrev pub row_holds : List Bool → Linear → Bool
row_holds a row = relates row.rel (terms_value a row.terms) row.bound

-- an assignment of all variables that makes every clause true and every row hold
pub record IsModel (i : InstanceValue) (a : List Bool) : Type 0 where
  pub variables : length a ≡ i.vars
  pub clauses : list_all (clause_true a) i.clauses ≡ true
  pub rows : list_all (row_holds a) i.linear ≡ true

-- the weight of a false soft clause, and 0 for a true one
abbrev pub soft_cost : List Bool → Soft → ℤ
soft_cost a s = if clause_true a s.lits then pos 0 else pos s.weight

abbrev pub objective_cost : List Bool → Objective → ℤ
objective_cost a o = int_sum_by (soft_cost a) o.softs +ℤ terms_value a o.terms +ℤ o.offset

-- one number for each objective
abbrev pub costs_of : InstanceValue → List Bool → List ℤ
costs_of i a = map (objective_cost a) i.objectives
