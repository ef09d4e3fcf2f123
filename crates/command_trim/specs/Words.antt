-- The words of `trim IN LIST LOG NEW`.
use Rattle.std.specs.Prelude.{ℕ, List, [], ◌∷◌, codes, Option, Some, None}
use Rattle.std.specs.Option.{option_and_then}
use Rattle.command_base.specs.FileWords.{FilesAsked, files_asked}
use Rattle.command_base.specs.declared.instance_file.Format.{Format}
use Rattle.command_check.specs.Words.{CheckAsked}
use Rattle.command_trim.specs.declared.Trim.{Trim}

-- what is asked for: the log in the third file, for the instance and the list in the first two, trimmed into the fourth
pub record TrimAsked : Type 0 where
  pub format : Format
  pub input : List ℕ
  pub list : List ℕ
  pub log : List ℕ
  pub output : List ℕ

abbrev pub asked : Trim → TrimAsked
asked c = record { format = c.format; input = c.input.now; list = c.list.now; log = c.log.now; output = c.output.now }

-- the check of the same list and log
abbrev pub check_of : TrimAsked → CheckAsked
check_of a = record { format = a.format; input = a.input; list = a.list; log = a.log }

abbrev pub trim_in : Format → List (List ℕ) → Option TrimAsked
trim_in format (input ∷ list ∷ log ∷ output ∷ []) = Some (record { format = format; input = input; list = list; log = log; output = output })
trim_in format names = None

-- the trimming of four files
abbrev pub trim_of : FilesAsked → Option TrimAsked
trim_of files = trim_in files.format files.names

-- What the words ask for, of which the first is `trim`; nothing where clap or the names refuse them.
abbrev pub trim_asked : List (List ℕ) → Option TrimAsked
trim_asked words = option_and_then trim_of (files_asked (codes "trim") (codes "IN" ∷ codes "LIST" ∷ codes "LOG" ∷ codes "NEW" ∷ []) words)
