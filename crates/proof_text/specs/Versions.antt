-- The versions of a log: its first line, and how ids are spelled in the lines after it.
use Rattle.std.specs.Prelude.{◌≡◌, ℕ, ◌+◌, ◌≤◌, ◌^◌, List, [], ◌∷◌, ◌++◌, length, codes}
use Rattle.std.specs.Fmt.{decimal}
use Rattle.scut_base.specs.Bytes.{newline}
use Rattle.pb_lin.specs.Problem.{ProblemValue}
use Rattle.proof_laws.specs.State.{StateValue}
use Rattle.proof_laws.specs.declared.line.Line.{Line}
use Rattle.proof_lines.specs.Ids.{FitsNext, after_line}
use Rattle.proof_lines.specs.LineText.{printed}
use Rattle.proof_lines.specs.declared.spelling.Spelling.{Spelling}
use Rattle.proof_lines.specs.declared.spelling.Spelling.TheVariants.{Plain, Relative}
use Rattle.proof_text.specs.declared.version.LogVersion.{LogVersion}
use Rattle.proof_text.specs.declared.version.LogVersion.TheVariants.{One, Two}

-- the number of a version, as the first line of a log says it
abbrev pub version_number : LogVersion → ℕ
version_number One = 1
version_number Two = 2

-- Ids are spelled so in the first line after a header: in digits in version 1; in version 2 over so many rows, of which none is made yet.
abbrev pub IsFirst : Spelling → Type 0
IsFirst Plain = Unit {0}
IsFirst (Relative rows next) = (rows ≤ 2 ^ 34) × (next ≡ rows + 1)

-- the first line of a log, by how the ids after it are spelled
abbrev pub header_text : Spelling → List ℕ
header_text Plain = codes "scuttle proof version 1"
header_text (Relative rows next) = codes "scuttle proof version 2 rows " ++ decimal rows

abbrev pub header_line : Spelling → List ℕ
header_line first = header_text first ++ newline ∷ []

-- the texts of lines, of which the first spells its ids so, and each next one by the ids that were made before it
abbrev pub lines_text : Spelling → List Line → List ℕ
lines_text spelling [] = []
lines_text spelling (line ∷ lines) = printed spelling line ++ lines_text (after_line spelling line) lines

-- how ids are spelled after these lines
abbrev pub after_lines : Spelling → List Line → Spelling
after_lines spelling [] = spelling
after_lines spelling (line ∷ lines) = after_lines (after_line spelling line) lines

-- none of the lines makes an id of 2^63 or more, where ids are counted
abbrev pub AllFit : Spelling → List Line → Type 0
AllFit spelling [] = Unit {0}
AllFit spelling (line ∷ lines) = FitsNext spelling line × AllFit (after_line spelling line) lines

-- the header, and each line with its line feed
abbrev pub log_text : Spelling → List Line → List ℕ
log_text first lines = header_line first ++ lines_text first lines

-- ---- logs over a problem

-- how ids are spelled in the first line of a log of this version over the problem
abbrev pub first_of : LogVersion → ProblemValue → Spelling
first_of One p = Plain
first_of Two p = Relative (length p.rows) (length p.rows + 1)

-- and in the line after this state
abbrev pub spelling_at : LogVersion → ProblemValue → StateValue → Spelling
spelling_at One p s = Plain
spelling_at Two p s = Relative (length p.rows) s.next_id
