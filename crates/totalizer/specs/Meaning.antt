-- What it means that a literal stands for "the sum is at least k".
use Rattle.std.specs.Prelude.{◌≡◌, ◌≢◌, ◌⊎◌, ℕ, ◌<◌, ◌≤◌, Bool, true, false, List, [], ◌∷◌, AllPairs, Contains, Some, ℤ, pos, ◌≤ℤ◌, ◌<ℤ◌}
use Rattle.std.specs.FinMap.{get}
use Rattle.scut_base.specs.Literal.{Literal}
use Rattle.scut_base.specs.Assignment.{lit_true}
use Rattle.pb_lin.specs.Constraint.{ConstraintValue, Covers, IsVariable, total, value}
use Rattle.pb_lin.specs.Problem.{ProblemValue}
use Rattle.pb_lin.specs.Restriction.{restriction}
use Rattle.proof_laws.specs.State.{StateValue}
use Rattle.proof_laws.specs.Refusal.{line_or_none}
use Rattle.proof_laws.specs.Replay.{IsReplay}
use Rattle.proof_laws.specs.Steps.{reached_if}
use Rattle.proof_laws.specs.declared.line.Line.{Line}
use Rattle.sum_outputs.specs.Totals.{IsLeastSum}
use Rattle.sum_outputs.specs.Adding.{IsOwn, KeptHold}
use Rattle.sum_outputs.specs.Outputs.{IsInOrder}
use Rattle.totalizer.specs.declared.bound.Bound.{Bound}
use Rattle.totalizer.specs.declared.bound.Bound.TheVariants.{Always, Never, At}

-- where the kept clauses hold and the sum reaches k, the literal is true
abbrev pub FollowsSum : ProblemValue → List Line → StateValue → List (Literal × ℕ) → ℕ → Literal → Type 0
FollowsSum p lines s terms k l = (x : List Bool) → KeptHold p lines s x → k ≤ value x terms → lit_true x l ≡ true

-- literals of distinct variables, of which this is one
pub record AreTruthsWith (l : Literal) (truths : List Literal) : Type 0 where
  pub apart : AllPairs (λ m n. m.var ≢ n.var) truths
  pub there : Contains truths l

-- wherever the literal is true, with any others, the line covers "the sum is at least k"
abbrev pub BoundsSum : StateValue → List (Literal × ℕ) → ℕ → Literal → ℕ → Type 0
BoundsSum s terms k l id = (c : ConstraintValue) × (line_or_none s.live id ≡ Some c)
    × ((truths : List Literal) → AreTruthsWith l truths
    → Covers (restriction c truths) (restriction (record { terms = terms; degree = k }) truths))

-- The line is the first one of the definition of the literal's variable, "where it is true, the sum is at least n",
-- for the least sum n of at least k; the variable is none of the problem's.
pub record IsDefinedFor (p : ProblemValue) (s : StateValue)
    (terms : List (Literal × ℕ)) (k : ℕ) (l : Literal) (id : ℕ) : Type 0 where
  pub sum : ConstraintValue
  pub least : IsLeastSum terms k sum.degree
  pub order : IsInOrder terms sum.degree sum
  pub above : p.vars < l.var
  pub positive : l ≡ record { var = l.var; neg = false }
  pub line : get s.live id ≡ Some (reached_if l.var sum)

-- of one term it is the literal, and there is no line
abbrev pub IsOutput : ProblemValue → StateValue → List (Literal × ℕ) → ℕ → Literal → ℕ → Type 0
IsOutput p s (t ∷ []) k l id = (l ≡ t.0) × (id ≡ 0)
IsOutput p s terms k l id = IsDefinedFor p s terms k l id

-- no line is named, or a live one that no line has learned
abbrev pub IsOwnOrNone : ProblemValue → List Line → StateValue → ℕ → Type 0
IsOwnOrNone p lines s id = (id ≡ 0) ⊎ ((c : ConstraintValue) × IsOwn p lines s id c)

-- the literal stands for "the sum is at least k", by this line
pub record IsBoundAt (p : ProblemValue) (lines : List Line) (s : StateValue)
    (terms : List (Literal × ℕ)) (k : ℕ) (l : Literal) (id : ℕ) : Type 0 where
  pub variable : IsVariable s.vars l.var
  pub own : IsOwnOrNone p lines s id
  pub follows : FollowsSum p lines s terms k l
  pub bounds : BoundsSum s terms k l id
  pub output : IsOutput p s terms k l id

-- what is answered for "the sum is at least k"
abbrev pub IsBound : ProblemValue → List Line → List (Literal × ℕ) → ℤ → Bound → Type 0
IsBound p lines terms k (Always id) = (k ≤ℤ pos 0) × (id ≡ 0)
IsBound p lines terms k Never = pos (total terms) <ℤ k
IsBound p lines terms k (At l id) = (n : ℕ) × (k ≡ pos n) × (0 < n) × (n ≤ total terms)
    × ((s : StateValue) → IsReplay p lines s → IsBoundAt p lines s terms n l id)
