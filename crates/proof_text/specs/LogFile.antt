-- What the file of a recorder holds.
use Rattle.std.specs.Prelude.{◌≡◌, ◌⊎◌, ℕ, Bool, false, List, [], ◌++◌, Option, Some}
use Rattle.std.specs.Borrow.{MutBor}
use Rattle.scut_base.specs.Files.{Files, content, IsTold, IsTouched, IsPrefixOf}
use Rattle.pb_lin.specs.Problem.{ProblemValue}
use Rattle.proof_laws.specs.WellFormed.{IsWellFormed}
use Rattle.proof_laws.specs.State.{StateValue}
use Rattle.proof_laws.specs.declared.line.Line.{Line}
use Rattle.proof_laws.specs.Replay.{IsReplay}
use Rattle.proof_laws.specs.Legal.{IsLegal}
use Rattle.proof_lines.specs.LineText.{printed}
use Rattle.proof_lines.specs.declared.spelling.Spelling.{Spelling}
use Rattle.proof_text.specs.Versions.{AllFit, IsFirst, after_lines, first_of, header_line, log_text}
use Rattle.proof_text.specs.declared.version.LogVersion.{LogVersion}

-- a prefix of the text of a line that is legal after these, of which the first spells its ids so
pub record IsPartOfNext (p : ProblemValue) (first : Spelling) (lines : List Line) (part : List ℕ) : Type 0 where
  pub line : Line
  pub formed : IsWellFormed line
  pub state : StateValue
  pub replay : IsReplay p lines state
  pub legal : IsLegal p state line
  pub prefix : IsPrefixOf part (printed (after_lines first lines) line)

-- The file holds the header and the lines, where the files are told; after a fault a prefix of the next one may follow.
pub record IsLogFile (files : Option Files) (name : List ℕ) (p : ProblemValue) (version : LogVersion) (lines : List Line) (broken : Bool) : Type 0 where
  pub first : IsFirst (first_of version p)
  pub fit : AllFit (first_of version p) lines
  pub part : List ℕ
  pub file : IsTold files → content files name ≡ Some (log_text (first_of version p) lines ++ part)
  pub whole : broken ≡ false → part ≡ []
  pub next : (part ≡ []) ⊎ IsPartOfNext p (first_of version p) lines part

-- the file is as before, or holds a prefix of the header
abbrev pub IsNotBegun : Option Files → Option Files → List ℕ → Spelling → Type 0
IsNotBegun old new name first = IsTouched old new name (λ bytes. IsPrefixOf bytes (header_line first))

-- a recorder: the shelf that it was lent, the name of its file, the problem, the version, its lines, the state that they reach
pub record Held (H : Type 0) : Type 0 where
  pub shelf : MutBor H
  pub name : List ℕ
  pub problem : ProblemValue
  pub version : LogVersion
  pub lines : List Line
  pub state : StateValue
  pub broken : Bool
