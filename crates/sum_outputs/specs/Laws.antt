-- Lines by cutting planes that may be added, and what they leave.
use Rattle.std.specs.Prelude.{◌≡◌, ℕ, ◌+◌, ◌≤◌, ◌^◌, List, [], ◌∷◌, ◌++◌, All, None, Some, Ok}
use Rattle.std.specs.FinMap.{get}
use Rattle.pb_lin.specs.Constraint.{ConstraintValue, size}
use Rattle.cutting_planes.specs.Rules.{IsSum}
use Rattle.cutting_planes.specs.Stack.{IsValueOn}
use Rattle.cutting_planes.specs.declared.token.PolToken.{PolToken}
use Rattle.cutting_planes.specs.declared.token.PolToken.TheVariants.{Id, Add}
use Rattle.proof_laws.specs.State.{StateValue, IsState}
use Rattle.proof_laws.specs.WellFormed.{AreTokens, IsWellFormed}
use Rattle.proof_laws.specs.Refusal.{given_in, token_variables}
use Rattle.proof_laws.specs.declared.line.Line.TheVariants.{Pol}
use Rattle.proof_rules.specs.Recording.{Snapshot, MayBeAdded, IsNextId}
use Rattle.recording.specs.Advice.{IsConservative}
use Rattle.sum_outputs.specs.Adding.{IsOwn, IsReached, IsReady}

-- The tokens make this constraint of the state's live lines: a text can spell them, and their variables are the state's.
pub record AreTokensOf (s : StateValue) (tokens : List PolToken) (c : ConstraintValue) : Type 0 where
  pub formed : AreTokens tokens
  pub variables : All (λ t. All (λ v. v ≤ s.vars) (token_variables t)) tokens
  pub value : IsValueOn (given_in s None None) [] tokens (Ok c)

-- after the line, this constraint is live under the id that was the next, and no line has learned it
abbrev pub LeavesOwn : Snapshot → List PolToken → ConstraintValue → Type 0
LeavesOwn a tokens c = (b : Snapshot) (t : StateValue) (id : ℕ)
    → b.problem ≡ a.problem → b.lines ≡ a.lines ++ Pol tokens ∷ [] → IsReached b t → IsNextId a.problem a.lines id
    → IsOwn b.problem b.lines t id c

-- the line may be recorded, and then leaves this constraint
pub record MayBeRecorded (a : Snapshot) (tokens : List PolToken) (c : ConstraintValue) : Type 0 where
  pub formed : IsWellFormed (Pol tokens)
  pub kind : IsConservative (Pol tokens)
  pub legal : MayBeAdded a.problem a.lines (Pol tokens)
  pub own : LeavesOwn a tokens c

-- ---- laws

-- tokens that make a constraint of the live lines may be recorded
abbrev pub PolMayBeAdded : Type 0
PolMayBeAdded = (a : Snapshot) (s : StateValue) (tokens : List PolToken) (c : ConstraintValue)
    → IsReady a → IsReached a s → AreTokensOf s tokens c → MayBeRecorded a tokens c

-- so may those that add two live lines, unless these are too large
abbrev pub SumMayBeAdded : Type 0
SumMayBeAdded = (a : Snapshot) (s : StateValue) (i j : ℕ) (c d : ConstraintValue)
    → IsReady a → IsReached a s → IsState s → get s.live i ≡ Some c → get s.live j ≡ Some d → size c + size d ≤ 2 ^ 100
    → (sum : ConstraintValue) × IsSum sum c d × MayBeRecorded a (Id i ∷ Id j ∷ Add ∷ []) sum
