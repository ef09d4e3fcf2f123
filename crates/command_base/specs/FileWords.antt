-- The words of a command that is given files alone.
use Rattle.std.specs.Prelude.{◌&&◌, if◌then◌else◌, not, Bool, true, List, [], ◌∷◌, map, Option, None}
use Rattle.std.specs.List.{list_any}
use Rattle.std.specs.Option.{option_and_then, option_map}
use Rattle.std.specs.Str.{bytes_eq}
use Rattle.clap.specs.Words.{App, Row, Text, new_app, with_rule}
use Rattle.command_base.specs.CommandWords.{file_rule, rows_by, value_of}
use Rattle.command_base.specs.InstanceFile.{format_of}
use Rattle.command_base.specs.declared.file_words.FileNames.{FileNames}
use Rattle.command_base.specs.declared.instance_file.Format.{Format}

-- the names of files, of which the first is an instance file's
pub record FilesAsked : Type 0 where
  pub format : Format
  pub names : List Text

abbrev pub names_of : FileNames → FilesAsked
names_of files = record { format = files.format; names = map (λ s. s.now) files.names.items }

-- ---- the words

-- with these arguments more, each a required file name
abbrev pub with_files : App → List Text → App
with_files app [] = app
with_files app (id ∷ ids) = with_files (with_rule app (file_rule id)) ids

abbrev pub files_app : Text → List Text → App
files_app name ids = with_files (new_app name) ids

-- the values of these arguments
abbrev pub values_of : List Text → List Row → List Text
values_of ids rows = map (λ id. value_of id rows) ids

-- no name comes twice
abbrev pub all_differ : List Text → Bool
all_differ [] = true
all_differ (name ∷ names) = not (list_any (bytes_eq name) names) && all_differ names

-- names that all differ, the first of an instance file
abbrev pub files_named : List Text → Option FilesAsked
files_named [] = None
files_named (input ∷ others) =
    if all_differ (input ∷ others) then option_map (λ format. let f : FilesAsked = record { format = format; names = input ∷ others } in f) (format_of input)
    else None

-- What the words give a command of this name in these places, of which the first is its name; nothing where clap or the
-- names refuse them.
abbrev pub files_asked : Text → List Text → List Text → Option FilesAsked
files_asked name ids words = option_and_then (λ rows. files_named (values_of ids rows)) (rows_by (files_app name ids) words)
