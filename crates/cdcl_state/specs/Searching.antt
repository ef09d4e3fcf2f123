-- What is in step throughout a search: stored lines, a trail, what waits to be decided.
use Rattle.std.specs.Prelude.{◌≡◌, ◌≢◌, ℕ, ◌<◌, ◌≤◌, ◌^◌, List, [], length}
use Rattle.std.specs.FinMap.{empty}
use Rattle.scut_base.specs.Literal.{Literal}
use Rattle.pb_lin.specs.LineMap.{LineMap}
use Rattle.clause_prop.specs.Steps.{TrailValue, cut}
use Rattle.clause_prop.specs.declared.step.Step.{Step}
use Rattle.cdcl_trail.specs.SearchTrail.{AreLines, IsSearchTrail, IsStepAt, IsUpTo}
use Rattle.cdcl_trail.specs.Learning.{IsAsserting}
use Rattle.cdcl_state.specs.Order.{OrderValue, AllOpenWait}

-- the lines of a search, and its trail
pub record SearchValue : Type 0 where
  pub store : LineMap
  pub trail : TrailValue

-- no line, and no variable
abbrev pub no_lines : SearchValue
no_lines = record { store = empty; trail = record { vars = 0; steps = [] } }

-- the order has the trail's variables, and every open one waits
pub record IsOrderFor (o : OrderValue) (t : TrailValue) : Type 0 where
  pub known : t.vars ≡ length o.activities
  pub open_wait : AllOpenWait o t

-- The trail is a search's over the lines, the propagator is in step with both, and there is room for walks back.
pub record IsSearch (InStep : Type 0) (places : ℕ) (o : OrderValue) (s : SearchValue) : Type 0 where
  pub lines : AreLines s.trail.vars s.store
  pub trail : IsSearchTrail s.store s.trail
  pub in_step : InStep
  pub room : s.trail.vars ≤ places
  pub order : IsOrderFor o s.trail
  pub small : s.trail.vars < 2 ^ 63

-- the trail was cut to its steps up to the level
pub record IsBackTo (level : ℕ) (old new : TrailValue) : Type 0 where
  pub keep : ℕ
  pub up_to : IsUpTo old level keep
  pub is : new ≡ cut old keep

-- The trail was cut back from a conflict to the level at which these literals force one.
pub record IsReadyToLearn (store : LineMap) (old t : TrailValue) (top level : ℕ) (lits : List Literal) (l : Literal) : Type 0 where
  pub vars : old.vars ≡ t.vars
  pub search : IsSearchTrail store old
  pub asserting : IsAsserting old top level lits l
  pub back : IsBackTo level old t

-- the step of the literal's variable, of which there is one at most, is of this level
pub record IsLevelOf (t : TrailValue) (l : Literal) (level : ℕ) : Type 0 where
  pub place : ℕ
  pub step : Step
  pub there : IsStepAt t place step
  pub variable : step.lit.var ≡ l.var
  pub is : step.level ≡ level

-- no step of the literal before place `end` was forced by the line of this id
abbrev pub IsNotForcedBefore : TrailValue → ℕ → ℕ → Literal → Type 0
IsNotForcedBefore t end id l = (p : ℕ) (s : Step) → p < end → IsStepAt t p s → s.lit ≡ l → s.reason ≢ id
