-- How far a log has been rewritten into another file; nothing of it has to be believed.
use Rattle.std.specs.Prelude.{◌≡◌, ℕ, ◌<◌, ◌^◌, ◌⊎◌, Bool, true, false, List, [], ◌∷◌, ◌++◌, length, take, All, Option, Some, Result, Ok, Err}
use Rattle.scut_base.specs.Files.{Files, content, IsPrefixOf}
use Rattle.scut_base.specs.Faults.{Faults, NoneFell, ReadingFailed, Rose, count}
use Rattle.scut_base.specs.World.{World}
use Rattle.scut_base.specs.declared.shelf.ShelfCall.TheVariants.{Append}
use Rattle.proof_laws.specs.WellFormed.{IsWellFormed}
use Rattle.proof_laws.specs.declared.line.Line.{Line}
use Rattle.proof_laws.specs.declared.why.Why.{Why}
use Rattle.proof_laws.specs.declared.why.Why.TheVariants.{Syntax}
use Rattle.proof_text.specs.LogText.{HoldsNoFurtherLine, IsSyntaxAt, IsUnfinishedAt, SpellsLog}
use Rattle.proof_text.specs.Reading.{HasGiven, ReaderValue, StandsFor}
use Rattle.proof_text.specs.Recorders.{without_file}
use Rattle.proof_text.specs.Versions.{AllFit, IsFirst, after_lines, log_text}
use Rattle.proof_text.specs.Writing.{WriterValue}
use Rattle.proof_text.specs.declared.fault.TextFault.{TextFault}
use Rattle.proof_text.specs.declared.fault.TextFault.TheVariants.{Syntax as SyntaxAt, NoMemory as TextMemory}
use Rattle.command_base.specs.Causes.{HasText}
use Rattle.command_base.specs.LogLines.{AreBefore, AreOf, HasNoWrongLine, IsLargeAfter}
use Rattle.command_base.specs.Rewriting.{IsLineAfter, IsRefusal}
use Rattle.command_base.specs.WholeFile.{IsWhole}
use Rattle.command_base.specs.declared.stops.LogStop.{LogStop}
use Rattle.command_base.specs.declared.stops.LogStop.TheVariants.{Refused, Large, NoMemory, ShelfFailed}

-- why a text isn't read, as a stop
abbrev pub stop_of : TextFault → LogStop
stop_of (SyntaxAt k) = Refused k Syntax
stop_of TextMemory = NoMemory

-- ---- the lines of bytes that were fed

-- The writer's file holds the header and what was answered of the lines, which makes as many ids as they do.
pub record HoldsAnswers (files : Option Files) (w : WriterValue) (lines news : List Line) : Type 0 where
  pub first : IsFirst w.first
  pub formed : All IsWellFormed news
  pub fit : AllFit w.first news
  pub ids : after_lines w.first news ≡ after_lines w.first lines
  pub next : w.next ≡ after_lines w.first news
  pub file : IsWhole files w.name (log_text w.first news)

-- the reader was fed these bytes and has given these lines, and the writer's file holds what was answered of them
pub record IsUnderway (files : Option Files) (r : ReaderValue) (answers : List Line → List Line → Type 0) (w : WriterValue) (bytes : List ℕ) (lines news : List Line) : Type 0 where
  pub read : StandsFor r bytes lines
  pub short : length bytes < 2 ^ 62
  pub answered : answers lines news
  pub held : HoldsAnswers files w lines news

-- it is so of some bytes and lines
abbrev pub IsRewriting : Option Files → ReaderValue → (List Line → List Line → Type 0) → WriterValue → Type 0
IsRewriting files r answers w = (bytes : List ℕ) × (lines : List Line) × (news : List Line) × IsUnderway files r answers w bytes lines news

-- a line more of the bytes was given, and isn't answered yet
pub record IsNext (files : Option Files) (answers : List Line → List Line → Type 0) (w : WriterValue) (bytes : List ℕ) (lines news : List Line) (line : Line) : Type 0 where
  pub before : HasGiven bytes lines
  pub given : HasGiven bytes (lines ++ line ∷ [])
  pub short : length bytes < 2 ^ 62
  pub answered : answers lines news
  pub held : HoldsAnswers files w lines news

-- it is so of some bytes and lines
abbrev pub IsAnswering : Option Files → (List Line → List Line → Type 0) → WriterValue → Line → Type 0
IsAnswering files answers w line = (bytes : List ℕ) × (lines : List Line) × (news : List Line) × IsNext files answers w bytes lines news line

-- the writer's file holds a prefix of the header and of what was answered of lines that the bytes begin with
pub record IsLeft (files : Option Files) (answers : List Line → List Line → Type 0) (w : WriterValue) (bytes : List ℕ) : Type 0 where
  pub lines : List Line
  pub news : List Line
  pub given : HasGiven bytes lines
  pub answered : answers lines news
  pub text : List ℕ
  pub prefix : IsPrefixOf text (log_text w.first news)
  pub file : IsWhole files w.name text

-- line k of the bytes is the text of none after these lines, or is refused
abbrev pub IsRefusedAt : (Line → Why → Type 0) → List Line → ℕ → Why → List ℕ → Type 0
IsRefusedAt refuses lines k why bytes = ((why ≡ Syntax) × IsSyntaxAt bytes k × AreBefore bytes k lines) ⊎ ((line : Line) × refuses line why × IsLineAfter line lines k bytes)

-- a line is refused, and what was answered of those before it was written
pub record IsRefusedHere (files : Option Files) (answers : List Line → List Line → Type 0) (refuses : Line → Why → Type 0) (w : WriterValue) (bytes : List ℕ) (k : ℕ) (why : Why) : Type 0 where
  pub lines : List Line
  pub news : List Line
  pub given : HasGiven bytes lines
  pub answered : answers lines news
  pub held : HoldsAnswers files w lines news
  pub refused : IsRefusedAt refuses lines k why bytes

-- why no further line is written: one is refused, or something failed
abbrev pub StopsAt : (List Line → List Line → Type 0) → (Line → Why → Type 0) → LogStop → Option Files → WriterValue → List ℕ → Type 0
StopsAt answers refuses (Refused k why) files w bytes = IsRefusedHere files answers refuses w bytes k why
StopsAt answers refuses Large files w bytes = ⊥
StopsAt answers refuses NoMemory files w bytes = IsLeft files answers w bytes
StopsAt answers refuses ShelfFailed files w bytes = IsLeft files answers w bytes

-- the line is answered, and the answer was written
abbrev pub RewritesLine : Option Files → (List Line → List Line → Type 0) → (Line → Why → Type 0) → WriterValue → List ℕ → List Line → List Line → Line → Result Bool LogStop → Type 0
RewritesLine files answers refuses w bytes lines news line (Ok true) = (new : Line) × answers (lines ++ line ∷ []) (news ++ new ∷ []) × HoldsAnswers files w (lines ++ line ∷ []) (news ++ new ∷ [])
RewritesLine files answers refuses w bytes lines news line (Ok false) = ⊥
RewritesLine files answers refuses w bytes lines news line (Err stop) = StopsAt answers refuses stop files w bytes

-- a line more was rewritten, or there is none
abbrev pub RewritesNext : Option Files → ReaderValue → (List Line → List Line → Type 0) → (Line → Why → Type 0) → WriterValue → List ℕ → Result Bool LogStop → Type 0
RewritesNext files r answers refuses w bytes (Ok true) = (lines : List Line) × (news : List Line) × IsUnderway files r answers w bytes lines news
RewritesNext files r answers refuses w bytes (Ok false) = (lines : List Line) × (news : List Line) × IsUnderway files r answers w bytes lines news × HoldsNoFurtherLine bytes lines
RewritesNext files r answers refuses w bytes (Err stop) = StopsAt answers refuses stop files w bytes

-- all whole lines were rewritten
abbrev pub RewritesLines : Option Files → ReaderValue → (List Line → List Line → Type 0) → (Line → Why → Type 0) → WriterValue → List ℕ → Result (Unit {0}) LogStop → Type 0
RewritesLines files r answers refuses w bytes (Ok done) = (lines : List Line) × (news : List Line) × IsUnderway files r answers w bytes lines news × HoldsNoFurtherLine bytes lines
RewritesLines files r answers refuses w bytes (Err stop) = StopsAt answers refuses stop files w bytes

-- nothing has changed but the writer's file and counts of faults
pub record WritesOnly (w new : WriterValue) (before after : World) : Type 0 where
  pub name : new.name ≡ w.name
  pub first : new.first ≡ w.first
  pub others : without_file after.files w.name ≡ without_file before.files w.name
  pub said : after.said ≡ before.said
  pub warned : after.warned ≡ before.warned
  pub later : NoneFell before.faults after.faults

-- what is so at the end of the bytes: they spell the lines, or end in the midst of the next one
abbrev pub EndsAt : List ℕ → List Line → Result (Unit {0}) LogStop → Type 0
EndsAt bytes lines (Ok done) = SpellsLog bytes lines
EndsAt bytes lines (Err (Refused k why)) = (why ≡ Syntax) × HasNoWrongLine bytes × IsUnfinishedAt bytes k × AreBefore bytes k lines
EndsAt bytes lines (Err NoMemory) = Unit {0}
EndsAt bytes lines (Err stop) = ⊥

-- ---- a log file

-- It was fed so many bytes, the first of the file, and all their whole lines were rewritten.
pub record IsCopied (files : Option Files) (log : List ℕ) (r : ReaderValue) (answers : List Line → List Line → Type 0) (w : WriterValue) (n : ℕ) : Type 0 where
  pub bytes : List ℕ
  pub count : length bytes ≡ n
  pub first : (whole : List ℕ) → content files log ≡ Some whole → bytes ≡ take (length bytes) whole
  pub lines : List Line
  pub news : List Line
  pub underway : IsUnderway files r answers w bytes lines news
  pub held : HoldsNoFurtherLine bytes lines
  pub read : AreOf files log lines

-- the same, and these are all bytes of the file
pub record IsCopiedWhole (files : Option Files) (log : List ℕ) (r : ReaderValue) (answers : List Line → List Line → Type 0) (w : WriterValue) : Type 0 where
  pub count : ℕ
  pub so_far : IsCopied files log r answers w count
  pub all : IsWhole files log so_far.bytes

-- the log's text has P with some lines, and the writer's file holds the header and what was answered of these
pub record IsWith (files : Option Files) (log : List ℕ) (answers : List Line → List Line → Type 0) (w : WriterValue) (P : List Line → List ℕ → Type 0) : Type 0 where
  pub lines : List Line
  pub news : List Line
  pub answered : answers lines news
  pub text : HasText files log (P lines)
  pub file : IsWhole files w.name (log_text w.first news)
  pub spelled : SpellsLog (log_text w.first news) news

-- the writer's file holds a prefix of the header and of what was answered of lines that the log begins with
pub record IsLeftOf (files : Option Files) (log : List ℕ) (answers : List Line → List Line → Type 0) (w : WriterValue) : Type 0 where
  pub lines : List Line
  pub news : List Line
  pub answered : answers lines news
  pub read : AreOf files log lines
  pub text : List ℕ
  pub prefix : IsPrefixOf text (log_text w.first news)
  pub file : IsWhole files w.name text

-- why the log isn't rewritten to its end
abbrev pub IsCopyStop : (List Line → List Line → Type 0) → (Line → Why → Type 0) → LogStop → Option Files → List ℕ → WriterValue → Faults → Faults → Type 0
IsCopyStop answers refuses (Refused k why) files log w before after = IsRefusal refuses k why (IsWith files log answers w)
IsCopyStop answers refuses Large files log w before after = IsWith files log answers w IsLargeAfter
IsCopyStop answers refuses NoMemory files log w before after = IsLeftOf files log answers w
IsCopyStop answers refuses ShelfFailed files log w before after =
    IsLeftOf files log answers w × (ReadingFailed before after log ⊎ Rose (count before Append w.name) (count after Append w.name))
