-- The words of `upgrade IN LOG NEW`.
use Rattle.std.specs.Prelude.{ℕ, List, [], ◌∷◌, codes, Option, Some, None}
use Rattle.std.specs.Option.{option_and_then}
use Rattle.command_base.specs.FileWords.{FilesAsked, files_asked}
use Rattle.command_base.specs.declared.instance_file.Format.{Format}

-- what is asked for: the log in the second file, for the instance in the first, written in version 2 into the third
pub record UpgradeAsked : Type 0 where
  pub format : Format
  pub input : List ℕ
  pub log : List ℕ
  pub output : List ℕ

abbrev pub upgrade_in : Format → List (List ℕ) → Option UpgradeAsked
upgrade_in format (input ∷ log ∷ output ∷ []) = Some (record { format = format; input = input; log = log; output = output })
upgrade_in format names = None

-- what is asked of three files
abbrev pub upgrade_of : FilesAsked → Option UpgradeAsked
upgrade_of files = upgrade_in files.format files.names

-- What the words ask for, of which the first is `upgrade`; nothing where clap or the names refuse them.
abbrev pub upgrade_asked : List (List ℕ) → Option UpgradeAsked
upgrade_asked words = option_and_then upgrade_of (files_asked (codes "upgrade") (codes "IN" ∷ codes "LOG" ∷ codes "NEW" ∷ []) words)
