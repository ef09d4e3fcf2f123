-- The words of `front IN LIST`.
use Rattle.std.specs.Prelude.{ℕ, List, [], ◌∷◌, codes, Option, Some, None}
use Rattle.std.specs.Option.{option_and_then}
use Rattle.command_base.specs.FileWords.{FilesAsked, files_asked}
use Rattle.command_base.specs.declared.instance_file.Format.{Format}
use Rattle.command_front.specs.declared.Front.{Front}

-- what is asked for: the front of the instance in the one file, as a list in the other
pub record FrontAsked : Type 0 where
  pub format : Format
  pub input : List ℕ
  pub list : List ℕ

abbrev pub asked : Front → FrontAsked
asked c = record { format = c.format; input = c.input.now; list = c.list.now }

abbrev pub front_in : Format → List (List ℕ) → Option FrontAsked
front_in format (input ∷ list ∷ []) = Some (record { format = format; input = input; list = list })
front_in format names = None

-- the front of the first of two files
abbrev pub front_of : FilesAsked → Option FrontAsked
front_of files = front_in files.format files.names

-- What the words ask for, of which the first is `front`; nothing where clap or the names refuse them.
abbrev pub front_asked : List (List ℕ) → Option FrontAsked
front_asked words = option_and_then front_of (files_asked (codes "front") (codes "IN" ∷ codes "LIST" ∷ []) words)
