-- What later lines leave as it is.
use Rattle.std.specs.Prelude.{◌≡◌, List, ◌∷◌, ◌++◌, All, ℕ, ℤ}
use Rattle.scut_base.specs.Literal.{Literal}
use Rattle.pb_lin.specs.Constraint.{TermsUpTo}
use Rattle.pb_lin.specs.CostRow.{CostRowValue, IsCostRow}
use Rattle.pb_lin.specs.Problem.{ProblemValue}
use Rattle.proof_laws.specs.State.{StateValue}
use Rattle.proof_laws.specs.Replay.{IsReplay}
use Rattle.proof_laws.specs.Earned.{IsLearnedId}
use Rattle.proof_laws.specs.declared.line.Line.{Line}
use Rattle.proof_laws.specs.declared.line.Line.TheVariants.{Del, Reduce}
use Rattle.proof_rules.specs.Recording.{Snapshot}
use Rattle.sum_outputs.specs.Adding.{IsReached, IsLater}
use Rattle.totalizer.specs.declared.bound.Bound.{Bound}
use Rattle.totalizer.specs.declared.reform.Reform.{Reform}
use Rattle.totalizer.specs.Meaning.{IsBound}
use Rattle.totalizer.specs.Reforming.{IsOwnReform, IsReformOf}
use Rattle.totalizer.specs.Totalizing.{TotalizerValue, Fits}

-- the line deletes nothing, or is a reduction of learned lines
abbrev pub DeletesLearned : ProblemValue → List Line → Line → Type 0
DeletesLearned p before (Del ids) = ⊥
DeletesLearned p before (Reduce ids) = All (IsLearnedId p before) ids
DeletesLearned p before line = Unit {0}

-- the lines follow the old ones, and none of them deletes any but learned lines
pub record KeepsOwn (p : ProblemValue) (old new : List Line) : Type 0 where
  pub more : List Line
  pub is : new ≡ old ++ more
  pub kinds : (first : List Line) (line : Line) (after : List Line)
      → more ≡ first ++ (line ∷ after) → DeletesLearned p (old ++ first) line

-- ---- laws

-- such lines keep all lines that weren't learned
abbrev pub OwnLinesStay : Type 0
OwnLinesStay = (p : ProblemValue) (old new : List Line) (s t : StateValue)
    → KeepsOwn p old new → IsReplay p old s → IsReplay p new t → IsLater p old s new t

-- a totalizer that may be asked still may be
abbrev pub FittingStays : Type 0
FittingStays = (a b : Snapshot) (s : StateValue) (t : TotalizerValue)
    → b.problem ≡ a.problem → KeepsOwn a.problem a.lines b.lines → IsReached a s → Fits a t → Fits b t

-- a bound still means what it did
abbrev pub BoundStays : Type 0
BoundStays = (p : ProblemValue) (old new : List Line) (s : StateValue)
    (terms : List (Literal × ℕ)) (k : ℤ) (bound : Bound)
    → KeepsOwn p old new → IsReplay p old s → IsBound p old terms k bound → IsBound p new terms k bound

-- an objective in other terms still is one
abbrev pub ReformStays : Type 0
ReformStays = (p : ProblemValue) (old new : List Line) (s t : StateValue) (row : CostRowValue) (r : Reform)
    → KeepsOwn p old new → IsReplay p old s → IsReplay p new t → IsReformOf p old s row r → IsReformOf p new t row r

-- its own terms, with its offset, are those of an objective of the problem
abbrev pub OwnTermsServe : Type 0
OwnTermsServe = (p : ProblemValue) (lines : List Line) (s : StateValue) (row : CostRowValue) (r : Reform)
    → IsCostRow row.terms row.offset → TermsUpTo s.vars row.terms → IsOwnReform row r → IsReformOf p lines s row r
