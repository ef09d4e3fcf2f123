-- The laws of the rule book, each as one statement.
use Rattle.std.specs.Prelude.{◌≡◌, ◌⊎◌, ℕ, Bool, true, false, List, [], ◌∷◌, ◌++◌, ◌+◌, length, sum_by, All}
use Rattle.pb_lin.specs.Problem.{ProblemValue, IsProblem}
use Rattle.proof_laws.specs.WellFormed.{IsWellFormed}
use Rattle.proof_laws.specs.State.{StateValue, IsState, Fits, Satisfies, CoversAll, start}
use Rattle.proof_laws.specs.Steps.{made}
use Rattle.proof_laws.specs.Legal.{IsRefused, IsNext}
use Rattle.proof_laws.specs.Replay.{IsReplay}
use Rattle.proof_laws.specs.Earned.{IsEarned, changes_learned}
use Rattle.proof_laws.specs.declared.line.Line.{Line}
use Rattle.proof_laws.specs.declared.why.Why.{Why}

-- a proof begins with a state that fits the problem, and with every model covered
pub record StartIsSound : Type 0 where
  pub state : (p : ProblemValue) → IsProblem p → IsState (start p)
  pub fits : (p : ProblemValue) → Fits p (start p)
  pub covers : (p : ProblemValue) → CoversAll p (start p)

-- what is so before a legal line
pub record StandsBefore (p : ProblemValue) (s : StateValue) (line : Line) : Type 0 where
  pub problem : IsProblem p
  pub state : IsState s
  pub fits : Fits p s
  pub formed : IsWellFormed line

-- after a legal line there is a state again, and it fits the problem
abbrev pub NextFits : Type 0
NextFits = (p : ProblemValue) (s : StateValue) (line : Line) (t : StateValue) → StandsBefore p s line → IsNext p s line t → IsState t × Fits p t

-- a legal line of any kind keeps every model covered
abbrev pub NextCovers : Type 0
NextCovers = (p : ProblemValue) (s : StateValue) (line : Line) (t : StateValue) → StandsBefore p s line → IsNext p s line t → CoversAll p s → CoversAll p t

-- the state that a proof reaches fits the problem, and covers every model
pub record ReplayIsSound (p : ProblemValue) (s : StateValue) : Type 0 where
  pub state : IsState s
  pub fits : Fits p s
  pub covers : CoversAll p s

abbrev pub ReplaysAreSound : Type 0
ReplaysAreSound = (p : ProblemValue) (lines : List Line) (s : StateValue) → IsProblem p → All IsWellFormed lines → IsReplay p lines s → ReplayIsSound p s

-- nothing satisfies a state that has ended
abbrev pub EndedIsEmpty : Type 0
EndedIsEmpty = (p : ProblemValue) (s : StateValue) → IsState s → s.ended ≡ true → (x : List Bool) → Satisfies p s x → ⊥

-- a line that neither learns nor deletes keeps what was earned
abbrev pub PlainLineKeepsEarned : Type 0
PlainLineKeepsEarned = (p : ProblemValue) (lines : List Line) (n : ℕ) (s t : StateValue) (line : Line) → changes_learned line ≡ false →
    IsEarned p lines n → IsReplay p lines s → IsNext p s line t → IsEarned p (lines ++ line ∷ []) n

-- a line is refused for one reason at most, or has one next state at most, and never both
pub record JudgedOnce (p : ProblemValue) (s : StateValue) (line : Line) : Type 0 where
  pub one_reason : (why other : Why) → IsRefused p s line why → IsRefused p s line other → why ≡ other
  pub one_next : (t u : StateValue) → IsNext p s line t → IsNext p s line u → t ≡ u
  pub not_both : (why : Why) (t : StateValue) → IsRefused p s line why → IsNext p s line t → ⊥

abbrev pub LinesAreJudgedOnce : Type 0
LinesAreJudgedOnce = (p : ProblemValue) (s : StateValue) (line : Line) → JudgedOnce p s line

-- a line is refused, or has a next state
abbrev pub LinesAreJudged : Type 0
LinesAreJudged = (p : ProblemValue) (s : StateValue) (line : Line) → StandsBefore p s line → ((why : Why) × IsRefused p s line why) ⊎ ((t : StateValue) × IsNext p s line t)

-- lines reach one state at most, and with a line more the next one; the state counts them, and gives ids first to the rows and then to each constraint that they make
pub record ReplaysGoOn : Type 0 where
  pub one : (p : ProblemValue) (lines : List Line) (s t : StateValue) → IsReplay p lines s → IsReplay p lines t → s ≡ t
  pub last : (p : ProblemValue) (lines : List Line) (line : Line) (s t : StateValue) → IsReplay p lines s → IsReplay p (lines ++ line ∷ []) t → IsNext p s line t
  pub next : (p : ProblemValue) (lines : List Line) (line : Line) (s t : StateValue) → IsReplay p lines s → IsNext p s line t → IsReplay p (lines ++ line ∷ []) t
  pub counted : (p : ProblemValue) (lines : List Line) (s : StateValue) → IsReplay p lines s → s.lines ≡ length lines
  pub ids : (p : ProblemValue) (lines : List Line) (s : StateValue) → IsReplay p lines s → s.next_id ≡ length p.rows + 1 + sum_by made lines
