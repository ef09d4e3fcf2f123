-- What is known of a node's outputs.
use Rattle.std.specs.Prelude.{◌≡◌, ◌≢◌, ◌⊎◌, ℕ, ◌+◌, ◌<◌, ◌≤◌, ◌^◌, Bool, true, false, List, [], ◌∷◌, ◌++◌, sum_by, All, AllPairs}
use Rattle.std.specs.List.Sorted.{IsPermutation}
use Rattle.scut_base.specs.Literal.{Literal}
use Rattle.scut_base.specs.Assignment.{lit_true}
use Rattle.pb_lin.specs.Constraint.{ConstraintValue, IsNormal, IsVariable, total, value}
use Rattle.proof_laws.specs.State.{StateValue}
use Rattle.proof_laws.specs.Steps.{reached_if, reached_only_if}
use Rattle.proof_laws.specs.declared.line.Line.TheVariants.{Def}
use Rattle.proof_rules.specs.Recording.{Snapshot}
use Rattle.sum_outputs.specs.Totals.{Defines}
use Rattle.sum_outputs.specs.Adding.{IsOwn, IsReached}
use Rattle.sum_outputs.specs.declared.sum_output.SumOutput.{SumOutput}

-- the only term of a leaf is the literal, with the sum as its weight, and there is no line
abbrev pub IsOfLeaf : List (Literal × ℕ) → SumOutput → Type 0
IsOfLeaf terms o = (terms ≡ (o.lit, o.sum) ∷ []) × (o.lower ≡ 0)

-- the literal's variable was defined by the terms in order, and the two lines of its definition are there
pub record IsDefined (a : Snapshot) (s : StateValue) (terms : List (Literal × ℕ)) (o : SumOutput) : Type 0 where
  pub sum : ConstraintValue
  pub degree : sum.degree ≡ o.sum
  pub normal : IsNormal sum.terms sum.degree
  pub order : IsPermutation terms sum.terms
  pub same : (x : List Bool) → value x sum.terms ≡ value x terms
  pub whole : total sum.terms ≡ total terms
  pub below : All (λ t. t.0.var < o.lit.var) sum.terms
  -- it is none of the problem's
  pub above : a.problem.vars < o.lit.var
  pub positive : o.lit ≡ record { var = o.lit.var; neg = false }
  pub named : 0 < o.lower
  pub lower : IsOwn a.problem a.lines s o.lower (reached_if o.lit.var sum)
  pub upper : IsOwn a.problem a.lines s o.upper (reached_only_if o.lit.var sum)

-- the output's literal, which the two are
pub record IsLiteralOf (a : Snapshot) (s : StateValue) (terms : List (Literal × ℕ)) (o : SumOutput) : Type 0 where
  pub known : IsOfLeaf terms o ⊎ IsDefined a s terms o
  pub some : 0 < o.sum
  pub most : o.sum ≤ total terms
  pub variable : IsVariable s.vars o.lit.var

-- the same of outputs and the terms of their nodes
abbrev pub AreLiteralsOf : Snapshot → StateValue → List (List (Literal × ℕ)) → List SumOutput → Type 0
AreLiteralsOf a s [] [] = Unit {0}
AreLiteralsOf a s [] (o ∷ os) = ⊥
AreLiteralsOf a s (ts ∷ lists) [] = ⊥
AreLiteralsOf a s (ts ∷ lists) (o ∷ os) = IsLiteralOf a s ts o × AreLiteralsOf a s lists os

abbrev pub sums : List SumOutput → ℕ
sums os = sum_by (λ o. o.sum) os

-- Outputs of parts of a node, whose sums reach the target's; all other terms of the node are those to be weakened.
pub record CanImply (a : Snapshot) (s : StateValue) (parts : List SumOutput) (weakened : List (Literal × ℕ)) (target : SumOutput) : Type 0 where
  pub node : List (Literal × ℕ)
  pub lists : List (List (Literal × ℕ))
  pub defined : IsDefined a s node target
  pub some : 0 < target.sum
  pub variable : IsVariable s.vars target.lit.var
  pub known : AreLiteralsOf a s lists parts
  pub same : (x : List Bool) → value x node ≡ sum_by (value x) lists + value x weakened
  pub whole : total node ≡ sum_by total lists + total weakened
  pub small : total node < 2 ^ 63
  pub reaches : target.sum ≤ sums parts
  pub apart : AllPairs (λ o q. o.lit.var ≢ q.lit.var) parts
  pub other : All (λ o. o.lit.var ≢ target.lit.var) parts
  pub variables : All (λ t. IsVariable s.vars t.0.var) weakened
  pub outside : All (λ o. All (λ t. o.lit.var ≢ t.0.var) weakened) parts
  pub target_outside : All (λ t. target.lit.var ≢ t.0.var) weakened

-- where the literals of the outputs are true, that of the target is
abbrev pub Imply : List SumOutput → SumOutput → List Bool → Type 0
Imply parts target x = All (λ o. lit_true x o.lit ≡ true) parts → lit_true x target.lit ≡ true

-- ---- definitions

-- the terms in order of variables, with a number to be reached
pub record IsInOrder (terms : List (Literal × ℕ)) (n : ℕ) (c : ConstraintValue) : Type 0 where
  pub normal : IsNormal c.terms c.degree
  pub degree : c.degree ≡ n
  pub order : IsPermutation terms c.terms

-- the constraint may define the next variable
pub record IsSumOf (s : StateValue) (c : ConstraintValue) (var n : ℕ) : Type 0 where
  pub next : var ≡ s.vars + 1
  pub normal : IsNormal c.terms c.degree
  pub degree : c.degree ≡ n
  pub some : 0 < n
  pub most : n ≤ total c.terms
  pub small : total c.terms < 2 ^ 63
  pub variables : All (λ t. t.0.var ≤ s.vars) c.terms

-- one line was added, which defines the output's literal by the constraint
pub record IsDefinedBy (a b : Snapshot) (c : ConstraintValue) (o : SumOutput) : Type 0 where
  pub line : b.lines ≡ a.lines ++ Def o.lit.var c ∷ []
  pub positive : o.lit ≡ record { var = o.lit.var; neg = false }
  pub named : 0 < o.lower
  pub fresh : (s : StateValue) → IsReached a s → o.lit.var ≡ s.vars + 1
  pub variable : (t : StateValue) → IsReached b t → IsVariable t.vars o.lit.var
  pub lower : (t : StateValue) → IsReached b t → IsOwn b.problem b.lines t o.lower (reached_if o.lit.var c)
  pub upper : (t : StateValue) → IsReached b t → IsOwn b.problem b.lines t o.upper (reached_only_if o.lit.var c)

-- the same by terms in any order
pub record IsDefinedNext (a b : Snapshot) (terms : List (Literal × ℕ)) (o : SumOutput) : Type 0 where
  pub constraint : ConstraintValue
  pub line : b.lines ≡ a.lines ++ Def o.lit.var constraint ∷ []
  pub defines : Defines (Def o.lit.var constraint) terms o.sum
  pub fresh : (s : StateValue) → IsReached a s → o.lit.var ≡ s.vars + 1
  pub variable : (t : StateValue) → IsReached b t → IsVariable t.vars o.lit.var
  pub defined : (t : StateValue) → IsReached b t → IsDefined b t terms o

-- ---- clauses

-- it is so in the state that the lines reach
abbrev pub CanImplyNow : Snapshot → List SumOutput → List (Literal × ℕ) → SumOutput → Type 0
CanImplyNow a parts weakened target = (s : StateValue) → IsReached a s → CanImply a s parts weakened target

-- outputs in rising order of sums, which fit a number of 63 bits
pub record AreRising (os : List SumOutput) : Type 0 where
  pub rising : AllPairs (λ o q. o.sum < q.sum) os
  pub small : All (λ o. o.sum < 2 ^ 63) os
