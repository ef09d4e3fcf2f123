-- What is learned from a conflict: clauses that force a literal at a lower level, and the hints that prove a clause.
use Rattle.std.specs.Prelude.{◌≡◌, ℕ, ◌<◌, ◌≤◌, ◌⊎◌, None, List, ◌∷◌, replicate, All, AllPairs, Contains, IsSome}
use Rattle.std.specs.FinMap.{get}
use Rattle.scut_base.specs.Literal.{Literal}
use Rattle.pb_lin.specs.Constraint.{negation, opposite}
use Rattle.pb_lin.specs.LineMap.{LineMap}
use Rattle.pb_lin.specs.Given.{Given}
use Rattle.hint_rup.specs.Hints.{named}
use Rattle.hint_rup.specs.Propagation.{Conflicts}
use Rattle.hint_rup.specs.declared.hint.Hint.{Hint}
use Rattle.hint_rup.specs.declared.hint.Hint.TheVariants.{Id as IdHint}
use Rattle.proof_laws.specs.Steps.{clause}
use Rattle.clause_prop.specs.Steps.{TrailValue}
use Rattle.clause_prop.specs.declared.step.Step.{Step}
use Rattle.cdcl_trail.specs.SearchTrail.{IsStepAt}

-- the literal is false by a step that has P
pub record IsFalseBy (t : TrailValue) (P : Step → Type 0) (l : Literal) : Type 0 where
  pub place : ℕ
  pub step : Step
  pub there : IsStepAt t place step
  pub is : step.lit ≡ opposite l
  pub has : P step

-- the literal is false at the level
abbrev pub IsFalseAt : TrailValue → ℕ → Literal → Type 0
IsFalseAt t level l = IsFalseBy t (λ s. s.level ≡ level) l

-- Of these literals, in rising order of variables, `lit` is false at the level `top`, and all others are up to `level`, the highest of theirs, or 0 where there are none.
pub record IsAsserting (t : TrailValue) (top level : ℕ) (lits : List Literal) (lit : Literal) : Type 0 where
  pub rising : AllPairs (λ l m. l.var < m.var) lits
  pub among : Contains lits lit
  pub at_top : IsFalseAt t top lit
  pub others : All (λ l. (l ≡ lit) ⊎ IsFalseBy t (λ s. s.level ≤ level) l) lits
  pub below : level < top
  pub reached : (level ≡ 0) ⊎ ((l : Literal) × Contains lits l × IsFalseAt t level l)

-- stored lines, with nothing given besides
abbrev pub stored : LineMap → Given
stored store = record { lines = store; negated = None; denied = None }

-- The hints are ids of stored lines, which lead from the clause's negation to a conflict.
pub record AreHints (store : LineMap) (n : ℕ) (lits : List Literal) (hints : List Hint) : Type 0 where
  pub ids : All (λ h. (id : ℕ) × (h ≡ IdHint id) × IsSome (get store id)) hints
  pub conflict : Conflicts (replicate n None) (negation (clause lits) ∷ named (stored store) hints)

-- the step that a learned clause forces
abbrev pub asserted : Literal → ℕ → ℕ → Step
asserted l level id = record { lit = l; level = level; reason = id }
