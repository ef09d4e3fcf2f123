-- The laws of lines without hints, each as one statement.
use Rattle.std.specs.Prelude.{◌≡◌, ℕ, List, [], ◌∷◌, ◌++◌, replicate, All, Contains, Option, None, Some}
use Rattle.pb_lin.specs.Constraint.{ConstraintValue}
use Rattle.pb_lin.specs.Problem.{ProblemValue}
use Rattle.pb_lin.specs.Propagation.{ConflictsByPropagation}
use Rattle.hint_rup.specs.Propagation.{Conflicts}
use Rattle.proof_laws.specs.State.{StateValue, start}
use Rattle.proof_laws.specs.Replay.{IsReplay}
use Rattle.proof_laws.specs.declared.line.Line.{Line}
use Rattle.proof_laws.specs.declared.why.Why.{Why}
use Rattle.command_elaborate.specs.Loose.{IsLooselyRefused, IsLooseNext, IsLooseReplay, AreElaborated}
use Rattle.command_elaborate.specs.Reasons.{IsAdded, Elaborates}

-- lines that conflict in an order, each propagated once, conflict by propagation, and so do more lines
abbrev pub HintsConflictByPropagation : Type 0
HintsConflictByPropagation = (n : ℕ) (cs ds : List ConstraintValue) → All (Contains ds) cs → Conflicts (replicate n None) cs → ConflictsByPropagation ds

-- a line is loosely refused for one reason at most, or has one next state at most, and never both
pub record JudgedLooselyOnce (p : ProblemValue) (s : StateValue) (line : Line) : Type 0 where
  pub one_reason : (why other : Why) → IsLooselyRefused p s line why → IsLooselyRefused p s line other → why ≡ other
  pub one_next : (t u : StateValue) → IsLooseNext p s line t → IsLooseNext p s line u → t ≡ u
  pub not_both : (why : Why) (t : StateValue) → IsLooselyRefused p s line why → IsLooseNext p s line t → ⊥

abbrev pub LooselyJudgedOnce : Type 0
LooselyJudgedOnce = (p : ProblemValue) (s : StateValue) (line : Line) → JudgedLooselyOnce p s line

-- where the lines with hints are legal, each where it stands, those without lead loosely to the same state
abbrev pub ElaboratedReplayLoosely : Type 0
ElaboratedReplayLoosely = (p : ProblemValue) (lines news : List Line) (s : StateValue) → AreElaborated lines news → IsReplay p news s → IsLooseReplay p lines s

-- What elaborating the lines of a proof comes to, where it answers these lines and reaches this state.
pub record ElaborationReplays (p : ProblemValue) (lines news : List Line) (t : StateValue) (refused : Option Why) : Type 0 where
  -- what was answered is a proof
  pub replay : IsReplay p news t
  -- where nothing is refused, it is the same lines but for hints, which without them lead loosely to the same state
  pub elaborated : refused ≡ None → AreElaborated lines news
  pub loosely : refused ≡ None → IsLooseReplay p lines t
  -- where the lines lead loosely to a state, nothing is refused, and it is that state
  pub not_refused : (u : StateValue) → IsLooseReplay p lines u → (refused ≡ None) × (t ≡ u)

abbrev pub ElaborationsReplay : Type 0
ElaborationsReplay = (p : ProblemValue) (lines news : List Line) (t : StateValue) (refused : Option Why)
    → Elaborates p (start p) lines news t refused → ElaborationReplays p lines news t refused

-- what becomes of lines that were elaborated from s to t, by the answer for the next one
pub record ElaborationGoesOn (p : ProblemValue) (s : StateValue) (lines news : List Line) (t : StateValue) (line : Line) : Type 0 where
  pub added : (new : Line) (u : StateValue) → IsAdded p t line new u → Elaborates p s (lines ++ line ∷ []) (news ++ new ∷ []) u None
  pub refused : (why : Why) (later : List Line) → IsLooselyRefused p t line why → Elaborates p s (lines ++ line ∷ later) news t (Some why)

abbrev pub ElaborationsGoOn : Type 0
ElaborationsGoOn = (p : ProblemValue) (s : StateValue) (lines news : List Line) (t : StateValue) (line : Line)
    → Elaborates p s lines news t None → ElaborationGoesOn p s lines news t line
