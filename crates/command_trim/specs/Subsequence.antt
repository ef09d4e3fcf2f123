-- That new lines come of old ones in their order.
use Rattle.std.specs.Prelude.{◌≡◌, List, [], ◌∷◌, ◌++◌}
use Rattle.pb_lin.specs.Problem.{ProblemValue}
use Rattle.proof_laws.specs.declared.line.Line.{Line}
use Rattle.command_trim.specs.Trimmed.{Renaming, new_line, trimmed}

-- the same line under new ids; what it says of ids that have none may be left out
abbrev pub IsRenamed : Line → Line → Type 0
IsRenamed old new = (r : Renaming) × (new ≡ new_line r old)

-- The first of the new lines is an old one under new ids, and the others come of the old ones after it.
abbrev pub ComeOf : List Line → List Line → Type 0
ComeOf old [] = Unit {0}
ComeOf old (new ∷ news) = (before : List Line) × (line : Line) × (after : List Line) × (old ≡ before ++ line ∷ after) × IsRenamed line new × ComeOf after news

-- The trimmed lines are a subsequence of the old ones, up to new ids and what is left out.
abbrev pub TrimmedComeOfOld : Type 0
TrimmedComeOfOld = (p : ProblemValue) (lines : List Line) → ComeOf lines (trimmed p lines)
