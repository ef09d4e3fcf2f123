-- Tokens that make clauses of the live lines, and what is left of a recorder.
use Rattle.std.specs.Prelude.{◌≡◌, ◌≤◌, ℕ, true, List, ◌∷◌, ◌++◌, [], All}
use Rattle.pb_lin.specs.Constraint.{ConstraintValue}
use Rattle.cutting_planes.specs.declared.token.PolToken.{PolToken}
use Rattle.proof_laws.specs.State.{StateValue}
use Rattle.proof_laws.specs.WellFormed.{IsToken}
use Rattle.proof_laws.specs.Refusal.{is_clause, token_variables}
use Rattle.proof_laws.specs.declared.line.Line.TheVariants.{Pol}
use Rattle.proof_rules.specs.Recording.{Snapshot}
use Rattle.sum_outputs.specs.Adding.{IsOwn, IsReached}
use Rattle.sum_outputs.specs.Laws.{AreTokensOf}
use Rattle.sum_outputs.specs.Totals.{IsKeptClause}

-- a text can spell the token, and its variables are those up to n
abbrev pub IsSpelledUpTo : ℕ → PolToken → Type 0
IsSpelledUpTo n token = IsToken token × All (λ v. v ≤ n) (token_variables token)

-- the tokens make no constraint of the state's live lines
abbrev pub MakesNone : StateValue → List PolToken → Type 0
MakesNone s tokens = (c : ConstraintValue) → AreTokensOf s tokens c → ⊥

-- the same of the state that a recorder has reached
abbrev pub MakesNoneNow : Snapshot → List PolToken → Type 0
MakesNoneNow a tokens = (s : StateValue) → IsReached a s → MakesNone s tokens

-- the tokens make this clause of the state's live lines
abbrev pub MakesClause : StateValue → List PolToken → ConstraintValue → Type 0
MakesClause s tokens c = AreTokensOf s tokens c × (is_clause c ≡ true)

-- they make no clause of them
abbrev pub MakesNoClause : StateValue → List PolToken → Type 0
MakesNoClause s tokens = (c : ConstraintValue) → MakesClause s tokens c → ⊥

-- the same of the state that a recorder has reached
abbrev pub MakesNoClauseNow : Snapshot → List PolToken → Type 0
MakesNoClauseNow a tokens = (s : StateValue) → IsReached a s → MakesNoClause s tokens

-- the line of these tokens was added, and under this id is live what they make of the lines before
pub record AddsLine (a b : Snapshot) (tokens : List PolToken) (id : ℕ) : Type 0 where
  pub lines : b.lines ≡ a.lines ++ Pol tokens ∷ []
  pub made : ConstraintValue
  pub tokens_of : (s : StateValue) → IsReached a s → AreTokensOf s tokens made
  pub own : (s : StateValue) → IsReached b s → IsOwn b.problem b.lines s id made

-- The line of these tokens was added, and the clause that they make of the lines before is live under this id; no line has
-- learned it.
pub record AddsClauseLine (a b : Snapshot) (tokens : List PolToken) (id : ℕ) (c : ConstraintValue) : Type 0 where
  pub lines : b.lines ≡ a.lines ++ Pol tokens ∷ []
  pub makes : (s : StateValue) → IsReached a s → MakesClause s tokens c
  pub live : (s : StateValue) → IsReached b s → IsKeptClause b.problem b.lines s id c
