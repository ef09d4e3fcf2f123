-- What is learned from a conflict, and who is to blame for a literal that is false.
use Rattle.std.specs.Prelude.{◌≡◌, ◌≢◌, ℕ, ◌<◌, ◌≤◌, ◌⊎◌, map, All, AllPairs, Contains}
use Rattle.scut_base.specs.Literal.{Literal}
use Rattle.pb_lin.specs.Constraint.{opposite}
use Rattle.pb_lin.specs.LineMap.{LineMap}
use Rattle.clause_prop.specs.Steps.{TrailValue, last_level}
use Rattle.clause_prop.specs.declared.step.Step.{Step}
use Rattle.cdcl_trail.specs.SearchTrail.{IsStepAt}
use Rattle.cdcl_trail.specs.Learning.{AreHints, IsAsserting, IsFalseBy}
use Rattle.cdcl_state.specs.declared.lesson.Lesson.{Lesson}
use Rattle.cdcl_state.specs.declared.lesson.Blame.{Blame}

-- a clause that forces a literal after a jump back from the trail's top level, with hints that prove it
pub record IsLesson (store : LineMap) (t : TrailValue) (r : Lesson) : Type 0 where
  pub asserting : IsAsserting t (last_level t.steps) r.level r.lits r.lit
  pub hints : AreHints store t.vars r.lits r.hints
  pub met : All (λ l. (0 < l.var) × (l.var ≤ t.vars)) r.met

-- the literal was decided
abbrev pub IsDecided : TrailValue → Literal → Type 0
IsDecided t l = (p : ℕ) × (s : Step) × IsStepAt t p s × (s.reason ≡ 0) × (s.lit ≡ l)

-- The literal and decisions, in rising order of variables, with hints that prove the clause of their opposites.
pub record IsBlame (store : LineMap) (t : TrailValue) (l : Literal) (r : Blame) : Type 0 where
  pub rising : AllPairs (λ a b. a.var < b.var) r.lits
  pub among : Contains r.lits l
  pub decisions : All (λ m. (m ≡ l) ⊎ IsDecided t m) r.lits
  pub hints : AreHints store t.vars (map opposite r.lits) r.hints

-- the literal is false by a step that a line forces
abbrev pub IsForcedFalse : TrailValue → Literal → Type 0
IsForcedFalse t l = IsFalseBy t (λ s. s.reason ≢ 0) l
