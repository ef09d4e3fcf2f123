-- The text of a trimmed log, and that it is accepted again.
use Rattle.std.specs.Prelude.{◌≡◌, ℕ, ◌<◌, ◌^◌, List, length}
use Rattle.instance.specs.Shape.{InstanceValue, IsWithinLimits}
use Rattle.proof_laws.specs.declared.line.Line.{Line}
use Rattle.proof_lines.specs.declared.spelling.Spelling.TheVariants.{Plain}
use Rattle.proof_text.specs.LogText.{SpellsLog}
use Rattle.proof_text.specs.Versions.{log_text}
use Rattle.log_checker.specs.Accepted.{IsAccepted}
use Rattle.command_trim.specs.Trimmed.{trimmed}

-- the lines of an accepted log, trimmed over the instance's normal form
abbrev pub trimmed_of : (i : InstanceValue) (list log : List ℕ) → IsAccepted i list log → List Line
trimmed_of i list log accepted = trimmed accepted.problem accepted.proof.lines

-- Where a log is accepted for a list, each text of its trimmed lines, in either version, is accepted for the same list.
abbrev pub TrimmedTextsAreAccepted : Type 0
TrimmedTextsAreAccepted =
    (i : InstanceValue) (list log new : List ℕ) → IsWithinLimits i → (accepted : IsAccepted i list log) → SpellsLog new (trimmed_of i list log accepted) → IsAccepted i list new

-- List and log are accepted, and the log is one that is taken; the text is that of its trimmed lines in version 1, which are so many
-- of so many; and it is accepted for the same list.
pub record IsTrimmedText (kept total : ℕ) (text : List ℕ) (i : InstanceValue) (list log : List ℕ) : Type 0 where
  pub taken : length log < 2 ^ 62
  pub accepted : IsAccepted i list log
  pub is : text ≡ log_text Plain (trimmed_of i list log accepted)
  pub kept_is : kept ≡ length (trimmed_of i list log accepted)
  pub total_is : total ≡ length accepted.proof.lines
  pub again : IsAccepted i list text
