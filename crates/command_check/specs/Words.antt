-- The words of `check IN LIST LOG`.
use Rattle.std.specs.Prelude.{ℕ, List, [], ◌∷◌, codes, Option, Some, None}
use Rattle.std.specs.Option.{option_and_then}
use Rattle.command_base.specs.FileWords.{FilesAsked, files_asked}
use Rattle.command_base.specs.declared.instance_file.Format.{Format}
use Rattle.command_check.specs.declared.Check.{Check}

-- what is asked for: the check of the list and the log in the two other files for the instance in the first
pub record CheckAsked : Type 0 where
  pub format : Format
  pub input : List ℕ
  pub list : List ℕ
  pub log : List ℕ

abbrev pub asked : Check → CheckAsked
asked c = record { format = c.format; input = c.input.now; list = c.list.now; log = c.log.now }

abbrev pub check_in : Format → List (List ℕ) → Option CheckAsked
check_in format (input ∷ list ∷ log ∷ []) = Some (record { format = format; input = input; list = list; log = log })
check_in format names = None

-- the check of three files
abbrev pub check_of : FilesAsked → Option CheckAsked
check_of files = check_in files.format files.names

-- What the words ask for, of which the first is `check`; nothing where clap or the names refuse them.
abbrev pub check_asked : List (List ℕ) → Option CheckAsked
check_asked words = option_and_then check_of (files_asked (codes "check") (codes "IN" ∷ codes "LIST" ∷ codes "LOG" ∷ []) words)
