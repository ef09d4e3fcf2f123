-- What propagation does: steps that lines force, a line that is violated, and nothing left to force.
use Rattle.std.specs.Prelude.{◌≡◌, ℕ, Bool, true, List, ◌∷◌, ◌++◌, Contains, Option, Some, pos, ◌<ℤ◌}
use Rattle.std.specs.FinMap.{get}
use Rattle.scut_base.specs.Literal.{Literal}
use Rattle.pb_lin.specs.Constraint.{ConstraintValue, slack}
use Rattle.pb_lin.specs.LineMap.{LineMap}
use Rattle.pb_lin.specs.Propagation.{is_forced, IsClosedUnder}
use Rattle.clause_prop.specs.Steps.{TrailValue, partial, assigned, last_level}
use Rattle.clause_prop.specs.declared.step.Step.{Step}

-- the line has a term of this literal, which it forces
pub record Forces (p : List (Option Bool)) (c : ConstraintValue) (l : Literal) : Type 0 where
  pub term : Literal × ℕ
  pub among : Contains c.terms term
  pub literal : term.0 ≡ l
  pub forced : is_forced p c term ≡ true

-- The step's literal is forced by the line that is its reason, under the steps before it, and the step has their level.
pub record IsForcedStep (store : LineMap) (n : ℕ) (before : List Step) (s : Step) : Type 0 where
  pub line : ConstraintValue
  pub there : get store s.reason ≡ Some line
  pub forces : Forces (assigned n before) line s.lit
  pub level : s.level ≡ last_level before

-- each of the steps is forced under those before it
abbrev pub AreForced : LineMap → ℕ → List Step → List Step → Type 0
AreForced store n before more =
    (first : List Step) (s : Step) (after : List Step) → more ≡ first ++ (s ∷ after) → IsForcedStep store n (before ++ first) s

-- the new trail is the old one and then steps that lines force
pub record Extends (store : LineMap) (old new : TrailValue) : Type 0 where
  pub vars : new.vars ≡ old.vars
  pub more : List Step
  pub is : new.steps ≡ old.steps ++ more
  pub forced : AreForced store old.vars old.steps more

-- the line of this id has a negative slack
pub record IsConflict (store : LineMap) (t : TrailValue) (id : ℕ) : Type 0 where
  pub line : ConstraintValue
  pub there : get store id ≡ Some line
  pub violated : slack (partial t) line <ℤ pos 0

-- no line has a negative slack, or an open literal whose coefficient is above its slack
abbrev pub IsClosedFor : LineMap → TrailValue → Type 0
IsClosedFor store t = (id : ℕ) (c : ConstraintValue) → get store id ≡ Some c → IsClosedUnder (partial t) c
