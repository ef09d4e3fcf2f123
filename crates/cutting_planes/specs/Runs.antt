-- Tokens at the head of others that are applied together; nothing of it has to be believed.
use Rattle.std.specs.Prelude.{◌≡◌, ◌⊎◌, ℕ, ◌<◌, ◌≤◌, ◌==◌, not, List, [], ◌∷◌, length, drop, Option, Some, None, Result, Err, MatchResult}
use Rattle.std.specs.List.{filter}
use Rattle.scut_base.specs.Fault.{IsFaultOr}
use Rattle.scut_base.specs.Literal.{Literal}
use Rattle.pb_lin.specs.Constraint.{ConstraintValue}
use Rattle.pb_lin.specs.Given.{Given}
use Rattle.cutting_planes.specs.Rules.{weakened}
use Rattle.cutting_planes.specs.Stack.{Answer, IsValueOn}
use Rattle.cutting_planes.specs.declared.token.PolToken.{PolToken}
use Rattle.cutting_planes.specs.declared.token.PolToken.TheVariants.{Weaken}
use Rattle.cutting_planes.specs.declared.fault.PolFault.{PolFault}
use Rattle.cutting_planes.specs.declared.fault.PolFault.TheVariants.{Stack, NoMemory}

-- the token weakens
abbrev pub IsWeakening : PolToken → Type 0
IsWeakening (Weaken var) = Unit {0}
IsWeakening token = ⊥

-- the variable that a token weakens, and 0 for another token
abbrev pub weakened_variable : PolToken → ℕ
weakened_variable (Weaken var) = var
weakened_variable token = 0

-- the constraint weakened by each of the tokens, one after another
abbrev pub weakened_all : List PolToken → ConstraintValue → ConstraintValue
weakened_all [] c = c
weakened_all (token ∷ tokens) c = weakened_all tokens (weakened (weakened_variable token) c)

-- the terms whose coefficients aren't 0
abbrev pub nonzero : List (Literal × ℕ) → List (Literal × ℕ)
nonzero terms = filter (λ t. not (t.1 == 0)) terms

-- tokens that weaken find a constraint
abbrev pub top_fault : List ConstraintValue → Option PolFault
top_fault [] = Some Stack
top_fault (c ∷ stack) = None

-- the topmost is weakened by each of the tokens
abbrev pub IsRunStep : List PolToken → List ConstraintValue → List ConstraintValue → Type 0
IsRunStep run [] new = ⊥
IsRunStep run (c ∷ stack) new = new ≡ weakened_all run c ∷ stack

-- what code answers that weakens the topmost by these tokens
abbrev pub IsRunApplied : List PolToken → List ConstraintValue → List ConstraintValue → Result (Unit {0}) PolFault → Type 0
IsRunApplied run old new result = MatchResult result (λ _. (top_fault old ≡ None) × IsRunStep run old new) (λ f. IsFaultOr NoMemory (top_fault old) f)

-- the answer of the tokens on a stack is that of those after the first n on another
abbrev pub LeadsTo : Given → List PolToken → List ConstraintValue → ℕ → List ConstraintValue → Type 0
LeadsTo given tokens old n new = (answer : Answer) → IsValueOn given new (drop n tokens) answer → IsValueOn given old tokens answer

-- what code answers that applies the first tokens, and says how many
abbrev pub IsBegun : Given → List PolToken → List ConstraintValue → List ConstraintValue → Result ℕ PolFault → Type 0
IsBegun given tokens old new result = MatchResult result (λ n. (0 < n) × (n ≤ length tokens) × LeadsTo given tokens old n new) (λ f. (f ≡ NoMemory) ⊎ IsValueOn given old tokens (Err f))
