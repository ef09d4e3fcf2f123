-- What a line is made of: fields that a log can spell.
use Rattle.std.specs.Prelude.{◌≡◌, ◌≢◌, ℕ, ◌<◌, ◌^◌, ◌⊎◌, List, [], All, AllPairs, ℤ, pos, ◌≤ℤ◌, ◌<ℤ◌}
use Rattle.scut_base.specs.Literal.{Literal}
use Rattle.pb_lin.specs.Constraint.{ConstraintValue, IsNormal}
use Rattle.pb_lin.specs.Substitution.{Images, IsWitness}
use Rattle.pb_lin.specs.declared.witness.Image.{Image}
use Rattle.pb_lin.specs.declared.witness.Image.TheVariants.{Zero, One, Lit}
use Rattle.cutting_planes.specs.declared.token.PolToken.{PolToken}
use Rattle.cutting_planes.specs.declared.token.PolToken.TheVariants.{Id as IdToken, Axiom, Negated as NegatedToken, Denied as DeniedToken, Add, Mul, Div, Saturate, Weaken}
use Rattle.hint_rup.specs.declared.hint.Hint.{Hint}
use Rattle.hint_rup.specs.declared.hint.Hint.TheVariants.{Id as IdHint, Negated as NegatedHint, Denied as DeniedHint}
use Rattle.proof_laws.specs.declared.goal.Goal.{Goal}
use Rattle.proof_laws.specs.declared.goal.Goal.TheVariants.{Row, Itself, Objective, Strict}
use Rattle.proof_laws.specs.declared.goal.GoalProof.{GoalProof}
use Rattle.proof_laws.specs.declared.goal.GoalProof.TheVariants.{Rup as ByRup, Pol as ByPol}
use Rattle.proof_laws.specs.declared.line.Line.{Line}
use Rattle.proof_laws.specs.declared.line.Line.TheVariants.{Pol, Rup, Learn, Def, Red, Dom, Sol, Del, Reduce, End}

abbrev pub IsId : ℕ → Type 0
IsId id = id < 2 ^ 63

abbrev pub IsVariable : ℕ → Type 0
IsVariable var = (0 < var) × (var < 2 ^ 63)

-- a factor has no sign in a text
abbrev pub IsFactor : ℤ → Type 0
IsFactor k = (pos 0 ≤ℤ k) × (k <ℤ pos (2 ^ 127))

-- a constraint in normal form
pub record IsConstraint (c : ConstraintValue) : Type 0 where
  pub normal : IsNormal c.terms c.degree
  pub variables : All (λ t. IsVariable t.0.var) c.terms

abbrev pub IsToken : PolToken → Type 0
IsToken (IdToken id) = IsId id
IsToken (Axiom l) = IsVariable l.var
IsToken NegatedToken = Unit {0}
IsToken DeniedToken = Unit {0}
IsToken Add = Unit {0}
IsToken (Mul k) = IsFactor k
IsToken (Div k) = IsFactor k
IsToken Saturate = Unit {0}
IsToken (Weaken var) = IsVariable var

-- one token or more
abbrev pub AreTokens : List PolToken → Type 0
AreTokens tokens = (tokens ≢ []) × All IsToken tokens

abbrev pub IsHint : Hint → Type 0
IsHint (IdHint id) = IsId id
IsHint NegatedHint = Unit {0}
IsHint DeniedHint = Unit {0}

abbrev pub IsImage : Image → Type 0
IsImage Zero = Unit {0}
IsImage One = Unit {0}
IsImage (Lit l) = IsVariable l.var

-- images of variables, which rise
pub record IsSubstitution (w : Images) : Type 0 where
  pub rising : IsWitness w
  pub images : All (λ i. IsVariable i.0 × IsImage i.1) w

abbrev pub IsGoal : Goal → Type 0
IsGoal (Row id) = IsId id
IsGoal Itself = Unit {0}
IsGoal (Objective i) = (0 < i) × (i < 2 ^ 32)
IsGoal Strict = Unit {0}

-- the kinds of goals in order: lines, the constraint itself, objectives, the strict goal
abbrev pub goal_kind : Goal → ℕ
goal_kind (Row id) = 0
goal_kind Itself = 1
goal_kind (Objective i) = 2
goal_kind Strict = 3

-- the number of a goal among those of its kind
abbrev pub goal_number : Goal → ℕ
goal_number (Row id) = id
goal_number Itself = 0
goal_number (Objective i) = i
goal_number Strict = 0

abbrev pub ComesBefore : Goal → Goal → Type 0
ComesBefore g h = (goal_kind g < goal_kind h) ⊎ ((goal_kind g ≡ goal_kind h) × (goal_number g < goal_number h))

abbrev pub IsGoalProof : GoalProof → Type 0
IsGoalProof (ByRup hints) = All IsHint hints
IsGoalProof (ByPol tokens) = AreTokens tokens

-- proofs of goals, in their order, each goal at most once
pub record AreProofs (proved : List (Goal × GoalProof)) : Type 0 where
  pub goals : All (λ q. IsGoal q.0) proved
  pub proofs : All (λ q. IsGoalProof q.1) proved
  pub order : AllPairs (λ q r. ComesBefore q.0 r.0) proved

-- one id or more, rising
abbrev pub AreRisingIds : List ℕ → Type 0
AreRisingIds ids = (ids ≢ []) × All IsId ids × AllPairs (λ i j. i < j) ids

-- literals of rising variables
abbrev pub AreRisingLiterals : List Literal → Type 0
AreRisingLiterals lits = All (λ l. IsVariable l.var) lits × AllPairs (λ l m. l.var < m.var) lits

-- a line that a log can spell
abbrev pub IsWellFormed : Line → Type 0
IsWellFormed (Pol tokens) = AreTokens tokens
IsWellFormed (Rup goal hints) = IsConstraint goal × All IsHint hints
IsWellFormed (Learn goal hints) = IsConstraint goal × All IsHint hints
IsWellFormed (Def var sum) = IsVariable var × IsConstraint sum
IsWellFormed (Red goal witness proofs) = IsConstraint goal × IsSubstitution witness × AreProofs proofs
IsWellFormed (Dom goal witness proofs) = IsConstraint goal × IsSubstitution witness × AreProofs proofs
IsWellFormed (Sol model cut rows) = All (λ l. IsVariable l.var) model × AreRisingLiterals cut × All IsId rows
IsWellFormed (Del ids) = AreRisingIds ids
IsWellFormed (Reduce ids) = AreRisingIds ids
IsWellFormed (End id) = IsId id
