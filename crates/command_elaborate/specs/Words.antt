-- The words of `elaborate IN LOG NEW`.
use Rattle.std.specs.Prelude.{ℕ, List, [], ◌∷◌, codes, Option, Some, None}
use Rattle.std.specs.Option.{option_and_then}
use Rattle.command_base.specs.FileWords.{FilesAsked, files_asked}
use Rattle.command_base.specs.declared.instance_file.Format.{Format}

-- what is asked for: the log in the second file, for the instance in the first, elaborated into the third
pub record ElaborateAsked : Type 0 where
  pub format : Format
  pub input : List ℕ
  pub log : List ℕ
  pub output : List ℕ

abbrev pub elaborate_in : Format → List (List ℕ) → Option ElaborateAsked
elaborate_in format (input ∷ log ∷ output ∷ []) = Some (record { format = format; input = input; log = log; output = output })
elaborate_in format names = None

-- what is asked of three files
abbrev pub elaborate_of : FilesAsked → Option ElaborateAsked
elaborate_of files = elaborate_in files.format files.names

-- What the words ask for, of which the first is `elaborate`; nothing where clap or the names refuse them.
abbrev pub elaborate_asked : List (List ℕ) → Option ElaborateAsked
elaborate_asked words = option_and_then elaborate_of (files_asked (codes "elaborate") (codes "IN" ∷ codes "LOG" ∷ codes "NEW" ∷ []) words)
