-- Why a log isn't accepted: the first line that is refused, and its reason.
use Rattle.std.specs.Prelude.{◌≡◌, ◌⊎◌, ℕ, ◌+◌, false, List, [], ◌∷◌, ◌++◌, length, All, ℤ}
use Rattle.pb_lin.specs.Problem.{ProblemValue}
use Rattle.proof_laws.specs.State.{StateValue}
use Rattle.proof_laws.specs.Legal.{IsRefused, IsNext}
use Rattle.proof_laws.specs.Replay.{IsReplay}
use Rattle.proof_laws.specs.declared.line.Line.{Line}
use Rattle.proof_laws.specs.declared.why.Why.{Why}
use Rattle.proof_laws.specs.declared.why.Why.TheVariants.{Syntax, NoEnd, Uncovered}
use Rattle.proof_text.specs.LogText.{BeginsWith, SpellsLog, IsSyntaxAt, IsUnfinishedAt}
use Rattle.log_checker.specs.Accepted.{IsCovered}

-- The lines are legal, each where it stands, lead to this state, and log covered vectors alone.
pub record Reaches (p : ProblemValue) (vectors : List (List ℤ)) (lines : List Line) (s : StateValue) : Type 0 where
  pub replay : IsReplay p lines s
  pub covered : All (IsCovered vectors) s.sols

-- the line is legal, and logs a solution that isn't covered: the n-th
pub record LogsUncovered (p : ProblemValue) (vectors : List (List ℤ)) (s : StateValue) (line : Line) (n : ℕ) : Type 0 where
  pub next : StateValue
  pub legal : IsNext p s line next
  pub uncovered : All (IsCovered vectors) next.sols → ⊥
  pub number : length next.sols ≡ n

-- why a line is refused after this state: a condition of the rule book fails, or it logs a solution that isn't covered
abbrev pub IsLineFault : ProblemValue → List (List ℤ) → StateValue → Line → Why → Type 0
IsLineFault p vectors s line (Uncovered n) = LogsUncovered p vectors s line n
IsLineFault p vectors s line why = IsRefused p s line why

-- The bytes go on after these lines, which lead to this state, with one that is refused so.
pub record HasRefusedLine (p : ProblemValue) (vectors : List (List ℤ)) (bytes : List ℕ) (lines : List Line) (s : StateValue) (why : Why) : Type 0 where
  pub line : Line
  pub after : List ℕ
  pub begins : BeginsWith bytes (lines ++ line ∷ []) after
  pub refused : IsLineFault p vectors s line why

-- why the line after these is refused
abbrev pub IsNextFault : ProblemValue → List (List ℤ) → List ℕ → List Line → StateValue → Why → Type 0
IsNextFault p vectors bytes lines s Syntax = IsSyntaxAt bytes (length lines + 2)
IsNextFault p vectors bytes lines s why = HasRefusedLine p vectors bytes lines s why

-- Line k is the first that is refused, by bytes that are there, whatever follows; the lines before it, and the state that they lead to.
pub record IsRefusedAfter (p : ProblemValue) (vectors : List (List ℤ)) (bytes : List ℕ) (k : ℕ) (why : Why) : Type 0 where
  pub lines : List Line
  pub rest : List ℕ
  pub begins : BeginsWith bytes lines rest
  pub state : StateValue
  pub reached : Reaches p vectors lines state
  pub number : length lines + 2 ≡ k
  pub fault : IsNextFault p vectors bytes lines state why

-- The first line that is refused, by bytes that are there, whatever follows: the header, or one after it.
abbrev pub IsWholeFault : ProblemValue → List (List ℤ) → List ℕ → ℕ → Why → Type 0
IsWholeFault p vectors bytes k why = ((k ≡ 1) × (why ≡ Syntax) × IsSyntaxAt bytes 1) ⊎ IsRefusedAfter p vectors bytes k why

-- no line is refused by bytes that are there
abbrev pub HasNoWholeFault : ProblemValue → List (List ℤ) → List ℕ → Type 0
HasNoWholeFault p vectors bytes = (k : ℕ) (why : Why) → IsWholeFault p vectors bytes k why → ⊥

-- all lines pass, but none ends the proof
pub record HasNoEnd (p : ProblemValue) (vectors : List (List ℤ)) (bytes : List ℕ) (k : ℕ) : Type 0 where
  pub lines : List Line
  pub spelled : SpellsLog bytes lines
  pub state : StateValue
  pub reached : Reaches p vectors lines state
  pub unended : state.ended ≡ false
  pub number : length lines + 2 ≡ k

-- No line is refused by bytes that are there, and they end in the midst of one, or the proof hasn't ended.
abbrev pub IsEndFault : ProblemValue → List (List ℤ) → List ℕ → ℕ → Why → Type 0
IsEndFault p vectors bytes k Syntax = HasNoWholeFault p vectors bytes × IsUnfinishedAt bytes k
IsEndFault p vectors bytes k NoEnd = HasNoEnd p vectors bytes k
IsEndFault p vectors bytes k why = ⊥

-- the first that is wrong with a log
abbrev pub IsLogFault : ProblemValue → List (List ℤ) → List ℕ → ℕ → Why → Type 0
IsLogFault p vectors bytes k why = IsWholeFault p vectors bytes k why ⊎ IsEndFault p vectors bytes k why
