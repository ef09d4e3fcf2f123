-- What a search learns from, once it has jumped back from a conflict.
use Rattle.std.specs.Prelude.{◌≡◌, ◌≢◌, ℕ, List, Option, Some}
use Rattle.scut_base.specs.Literal.{Literal}
use Rattle.pb_lin.specs.Problem.{ProblemValue}
use Rattle.hint_rup.specs.declared.hint.Hint.{Hint}
use Rattle.proof_laws.specs.Steps.{clause}
use Rattle.proof_laws.specs.declared.line.Line.{Line}
use Rattle.proof_laws.specs.declared.line.Line.TheVariants.{Learn}
use Rattle.oracle.specs.Solving.{Reaches}
use Rattle.clause_prop.specs.Steps.{TrailValue, last_level, with_step}
use Rattle.cdcl_trail.specs.Learning.{AreHints, asserted}
use Rattle.cdcl_state.specs.Searching.{SearchValue, IsReadyToLearn}

-- The line learns a clause that stored lines prove, and the trail was cut back from a conflict to where the clause forces the literal.
pub record IsLearnable (search : SearchValue) (level : ℕ) (l : Literal) (line : Line) : Type 0 where
  pub before : TrailValue
  pub lits : List Literal
  pub hints : List Hint
  pub learns : line ≡ Learn (clause lits) hints
  pub ready : IsReadyToLearn search.store before search.trail (last_level before.steps) level lits l
  pub proved : AreHints search.store search.trail.vars lits hints

-- one more clause may be learned
abbrev pub MayLearn : Option ℕ → ProblemValue → List Line → Type 0
MayLearn limit p lines = Reaches p lines (λ s. limit ≢ Some s.learned)

-- a step of the literal was added, forced by a line
abbrev pub IsForcedBySome : TrailValue → TrailValue → Literal → ℕ → Type 0
IsForcedBySome old new l level = (id : ℕ) × (id ≢ 0) × (new ≡ with_step old (asserted l level id))
