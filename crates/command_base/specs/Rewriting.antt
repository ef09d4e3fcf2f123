-- A log that is rewritten into another file: what its lines are answered by, and what stands in the other file in the end.
-- `answers` says which answers were given to which lines, and `refuses` which line is refused after these.
use Rattle.std.specs.Prelude.{◌≡◌, ℕ, ◌+◌, ◌⊎◌, List, [], ◌∷◌, ◌++◌, length, Option}
use Rattle.scut_base.specs.Files.{Files, with_file, IsPrefixOf, IsTouched}
use Rattle.scut_base.specs.Faults.{ReadingFailed, WritingFailed}
use Rattle.scut_base.specs.World.{World}
use Rattle.proof_laws.specs.declared.line.Line.{Line}
use Rattle.proof_laws.specs.declared.why.Why.{Why}
use Rattle.proof_laws.specs.declared.why.Why.TheVariants.{Syntax}
use Rattle.proof_lines.specs.declared.spelling.Spelling.{Spelling}
use Rattle.proof_text.specs.LogText.{BeginsWith, SpellsLog}
use Rattle.proof_text.specs.Versions.{log_text}
use Rattle.command_base.specs.Causes.{HasText}
use Rattle.command_base.specs.LogLines.{AreOf, IsLargeAfter, IsWrongAfter, before_limit}
use Rattle.command_base.specs.declared.stops.LogStop.{LogStop}
use Rattle.command_base.specs.declared.stops.LogStop.TheVariants.{Refused, Large, NoMemory, ShelfFailed}

-- after these lines comes this one, line k of the bytes
pub record IsLineAfter (line : Line) (lines : List Line) (k : ℕ) (bytes : List ℕ) : Type 0 where
  pub rest : List ℕ
  pub there : BeginsWith bytes (lines ++ line ∷ []) rest
  pub number : k ≡ length lines + 2

-- Line k of the log is the first that is the text of none, or is refused; a line beyond the limit is not looked at. `Holds` says of a
-- property of the lines before it and the log that it holds of these.
abbrev pub IsRefusal : (Line → Why → Type 0) → ℕ → Why → ((List Line → List ℕ → Type 0) → Type 0) → Type 0
IsRefusal refuses k why Holds =
    ((why ≡ Syntax) × Holds (λ lines log. IsWrongAfter lines k log))
    ⊎ ((line : Line) × refuses line why × Holds (λ lines log. IsLineAfter line lines k (before_limit log)))

-- The log's text has P with some lines, and the new file holds the header and what is answered of these.
pub record IsRewritten (answers : List Line → List Line → Type 0) (before after : Option Files) (log output : List ℕ) (first : Spelling) (P : List Line → List ℕ → Type 0) : Type 0 where
  pub lines : List Line
  pub news : List Line
  pub answered : answers lines news
  pub text : HasText before log (P lines)
  pub files : after ≡ with_file before output (log_text first news)
  pub spelled : SpellsLog (log_text first news) news

-- The new file is as before, or holds a prefix of the header and of what is answered of lines that the log begins with.
pub record IsRewrittenPart (answers : List Line → List Line → Type 0) (before after : Option Files) (log output : List ℕ) (first : Spelling) : Type 0 where
  pub lines : List Line
  pub news : List Line
  pub answered : answers lines news
  pub read : AreOf before log lines
  pub files : IsTouched before after output (λ bytes. IsPrefixOf bytes (log_text first news))

-- why a log isn't rewritten to its end
abbrev pub IsRewriteStop : (List Line → List Line → Type 0) → (Line → Why → Type 0) → LogStop → World → World → List ℕ → List ℕ → Spelling → Type 0
IsRewriteStop answers refuses (Refused k why) before after log output first = IsRefusal refuses k why (IsRewritten answers before.files after.files log output first)
IsRewriteStop answers refuses Large before after log output first = IsRewritten answers before.files after.files log output first IsLargeAfter
IsRewriteStop answers refuses NoMemory before after log output first = IsRewrittenPart answers before.files after.files log output first
IsRewriteStop answers refuses ShelfFailed before after log output first =
    IsRewrittenPart answers before.files after.files log output first × (ReadingFailed before.faults after.faults log ⊎ WritingFailed before.faults after.faults output)
