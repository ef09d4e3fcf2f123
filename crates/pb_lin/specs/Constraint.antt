-- Constraints: a sum of positive coefficients on literals that is at least its degree.
use Rattle.std.specs.Prelude.{◌≡◌, ℕ, ◌+◌, ◌-◌, ◌^◌, ◌<◌, ◌≤◌, Bool, false, not, Option, Some, if◌then◌else◌, List, map, sum_by, All, AllPairs, ℤ, pos, ◌-ℤ◌}
use Rattle.scut_base.specs.Literal.{Literal}
use Rattle.scut_base.specs.Assignment.{lit_true, partial_truth}

-- a constraint, field by field
pub record ConstraintValue : Type 0 where
  pub terms : List (Literal × ℕ)
  pub degree : ℕ

-- the sum of the coefficients
abbrev pub total : List (Literal × ℕ) → ℕ
total terms = sum_by (λ t. t.1) terms

-- the coefficients and the degree, summed
abbrev pub size : ConstraintValue → ℕ
size c = total c.terms + c.degree

-- positive coefficients on literals of distinct variables, in rising order of variables
pub record IsMerged (terms : List (Literal × ℕ)) : Type 0 where
  pub positive : All (λ t. 0 < t.1) terms
  pub from_one : All (λ t. 0 < t.0.var) terms
  pub rising : AllPairs (λ s t. s.0.var < t.0.var) terms

-- normal form: merged terms, and a size of at most 2^100
pub record IsNormal (terms : List (Literal × ℕ)) (degree : ℕ) : Type 0 where
  pub merged : IsMerged terms
  pub small : total terms + degree ≤ 2 ^ 100

-- a variable from 1 to n
abbrev pub IsVariable : ℕ → ℕ → Type 0
IsVariable n var = (0 < var) × (var ≤ n)

-- no variable of the terms is above n
abbrev pub TermsUpTo : ℕ → List (Literal × ℕ) → Type 0
TermsUpTo n terms = All (λ t. t.0.var ≤ n) terms

-- no variable of the constraint is above n
abbrev pub UpTo : ℕ → ConstraintValue → Type 0
UpTo n c = TermsUpTo n c.terms

-- all coefficients are 1
abbrev pub AreOnes : List (Literal × ℕ) → Type 0
AreOnes terms = All (λ t. t.1 ≡ 1) terms

-- the literals of the terms
abbrev pub literals : List (Literal × ℕ) → List Literal
literals terms = map (λ t. t.0) terms

-- each literal with the coefficient 1
abbrev pub ones : List Literal → List (Literal × ℕ)
ones lits = map (λ l. (l, 1)) lits

-- the coefficient where the literal is true, and else 0
abbrev pub term_value : List Bool → Literal × ℕ → ℕ
term_value a t = if lit_true a t.0 then t.1 else 0

-- the sum of the coefficients of the true literals
abbrev pub value : List Bool → List (Literal × ℕ) → ℕ
value a terms = sum_by (term_value a) terms

abbrev pub Holds : List Bool → ConstraintValue → Type 0
Holds a c = c.degree ≤ value a c.terms

-- every assignment under which the one holds makes the other hold
abbrev pub Implies : ConstraintValue → ConstraintValue → Type 0
Implies p q = (a : List Bool) → Holds a p → Holds a q

-- At every assignment the left side of p is above that of q by at most what the degree of p is above that of q.
abbrev pub Covers : ConstraintValue → ConstraintValue → Type 0
Covers p q = (a : List Bool) → value a p.terms + q.degree ≤ value a q.terms + p.degree

-- the literal of the other sign
abbrev pub opposite : Literal → Literal
opposite l = record { var = l.var; neg = not l.neg }

-- each coefficient on the opposite literal
abbrev pub opposite_terms : List (Literal × ℕ) → List (Literal × ℕ)
opposite_terms terms = map (λ t. (opposite t.0, t.1)) terms

-- the constraint that holds exactly where this one doesn't
abbrev pub negation : ConstraintValue → ConstraintValue
negation c = record { terms = opposite_terms c.terms; degree = (total c.terms + 1) - c.degree }

-- a coefficient by the truth of its literal: 0 where it is false
abbrev pub unless_false : Option Bool → ℕ → ℕ
unless_false (Some false) coefficient = 0
unless_false truth coefficient = coefficient

-- the coefficient where the literal is true or open, and else 0
abbrev pub possible_value : List (Option Bool) → Literal × ℕ → ℕ
possible_value p t = unless_false (partial_truth p t.0) t.1

-- the coefficients of the literals that aren't false, minus the degree
abbrev pub slack : List (Option Bool) → ConstraintValue → ℤ
slack p c = pos (sum_by (possible_value p) c.terms) -ℤ pos c.degree
