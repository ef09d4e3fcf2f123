-- What keeps the place in a log that is written line by line.
use Rattle.std.specs.Prelude.{ℕ, List}
use Rattle.proof_laws.specs.declared.line.Line.{Line}
use Rattle.proof_lines.specs.Ids.{after_line}
use Rattle.proof_lines.specs.declared.spelling.Spelling.{Spelling}

-- the name of the file, and how the first line spells its ids, and how the next one does
pub record WriterValue : Type 0 where
  pub name : List ℕ
  pub first : Spelling
  pub next : Spelling

-- one that has written the header
abbrev pub new_writer : List ℕ → Spelling → WriterValue
new_writer name first = record { name = name; first = first; next = first }

-- and a line more
abbrev pub writer_after : WriterValue → Line → WriterValue
writer_after w line = record w { next = after_line w.next line }
