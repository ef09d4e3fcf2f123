-- States of a proof: what is known of a problem, and that every model of it is covered.
use Rattle.std.specs.Prelude.{◌≡◌, ◌⊎◌, ℕ, ◌+◌, ◌*◌, ◌<◌, ◌≤◌, ◌^◌, Bool, true, false, Some, List, [], ◌∷◌, length, slice_index_or, All, Contains, ℤ}
use Rattle.std.specs.FinMap.{get}
use Rattle.pb_lin.specs.Constraint.{ConstraintValue, Holds, IsNormal, TermsUpTo}
use Rattle.pb_lin.specs.Problem.{ProblemValue, IsProblemModel, problem_costs}
use Rattle.pb_lin.specs.LineMap.{LineMap, lines_of}
use Rattle.front_set.specs.Vector.{IsBelow}

-- what a proof has reached
pub record StateValue : Type 0 where
  -- the number of variables: those of the problem, and those that were defined
  pub vars : ℕ
  -- the constraints that may be used, by their ids
  pub live : LineMap
  -- the id that the next constraint gets
  pub next_id : ℕ
  -- the cost vectors of the logged models
  pub sols : List (List ℤ)
  -- how many lines there were, and how many of them learned a clause
  pub lines : ℕ
  pub learned : ℕ
  pub ended : Bool

-- constraints with their ids, from n on
abbrev pub numbered : ℕ → List ConstraintValue → List (ℕ × ConstraintValue)
numbered n [] = []
numbered n (c ∷ cs) = (n, c) ∷ numbered (n + 1) cs

-- the problem's rows are live, with ids from 1 on, and nothing else is there
abbrev pub start : ProblemValue → StateValue
start p = record {
  vars = p.vars;
  live = lines_of (numbered 1 p.rows);
  next_id = length p.rows + 1;
  sols = [];
  lines = 0;
  learned = 0;
  ended = false;
}

-- a constraint that nothing satisfies: no terms, and a degree of at least 1
abbrev pub IsContradiction : ConstraintValue → Type 0
IsContradiction c = (c.terms ≡ []) × (0 < c.degree)

-- some live line is a contradiction
abbrev pub HasContradiction : StateValue → Type 0
HasContradiction s = (id : ℕ) × (c : ConstraintValue) × (get s.live id ≡ Some c) × IsContradiction c

-- what is so of each state that a proof reaches
pub record IsState (s : StateValue) : Type 0 where
  pub ids : (id : ℕ) (c : ConstraintValue) → get s.live id ≡ Some c → (0 < id) × (id < s.next_id)
  pub normal : (id : ℕ) (c : ConstraintValue) → get s.live id ≡ Some c → IsNormal c.terms c.degree
  pub variables : (id : ℕ) (c : ConstraintValue) → get s.live id ≡ Some c → TermsUpTo s.vars c.terms
  pub first_id : 0 < s.next_id
  pub next_id : s.next_id ≤ 2 ^ 34 + 1 + 2 * s.lines
  pub vars : s.vars < 2 ^ 33 + s.lines
  pub learned : s.learned ≤ s.lines
  pub lines : s.lines ≤ 2 ^ 61
  pub ended : s.ended ≡ true → HasContradiction s

-- the problem's rows are live, with ids from 1 on
abbrev pub RowsLive : ProblemValue → StateValue → Type 0
RowsLive p s = (k : ℕ) (d : ConstraintValue) → k < length p.rows → get s.live (k + 1) ≡ Some (slice_index_or p.rows k d)

-- the state is one of a proof over this problem
pub record Fits (p : ProblemValue) (s : StateValue) : Type 0 where
  pub rows : RowsLive p s
  pub vars : p.vars ≤ s.vars
  pub sols : All (λ v. length v ≡ length p.costs) s.sols

-- an assignment of the state's variables that makes every row and every live line hold
pub record Satisfies (p : ProblemValue) (s : StateValue) (x : List Bool) : Type 0 where
  pub variables : length x ≡ s.vars
  pub rows : All (Holds x) p.rows
  pub live : (id : ℕ) (c : ConstraintValue) → get s.live id ≡ Some c → Holds x c

-- some logged vector is below v
abbrev pub IsLogged : StateValue → List ℤ → Type 0
IsLogged s v = (u : List ℤ) × Contains s.sols u × IsBelow u v

-- some assignment satisfies the state at costs below v
abbrev pub IsReached : ProblemValue → StateValue → List ℤ → Type 0
IsReached p s v = (x : List Bool) × Satisfies p s x × IsBelow (problem_costs p x) v

-- Every model is covered: a logged vector is below its costs, or those of an assignment that satisfies the state are.
abbrev pub CoversAll : ProblemValue → StateValue → Type 0
CoversAll p s = (b : List Bool) → IsProblemModel p b → IsLogged s (problem_costs p b) ⊎ IsReached p s (problem_costs p b)
