-- What `clap` makes of the words of a command.
use Rattle.std.specs.Prelude.{ℕ, ◌&&◌, not, nat_lt, if◌then◌else◌, Bool, true, List, [], ◌∷◌, codes, Option, Some, None, unwrap_or}
use Rattle.std.specs.Option.{option_eq}
use Rattle.std.specs.Str.{bytes_eq}
use Rattle.scut_base.specs.Number.{is_natural, natural_value}
use Rattle.clap.specs.Kinds.{Kinds}
use Rattle.clap.specs.Words.{App, Row, Rule, Text, fault_of, first_of, matches_of, new_rule}
use Rattle.clap.specs.declared.builder.ArgAction.TheVariants.{Set, SetTrue}

-- a required file name
abbrev pub file_rule : Text → Rule
file_rule id = record (new_rule id) { required = true; action = Some Set }

-- an option `--NAME VALUE`
abbrev pub option_rule : Text → Rule
option_rule id = record (new_rule id) { long = Some id; action = Some Set }

-- a flag `--NAME`
abbrev pub flag_rule : Text → Rule
flag_rule id = record (new_rule id) { long = Some id; action = Some SetTrue }

-- what was found, unless something is wrong
abbrev pub unless_refused : Kinds → List Row → Option (List Row)
unless_refused [] rows = Some rows
unless_refused (kind ∷ kinds) rows = None

-- What clap finds in the words, of which the first is the command's name; nothing where it refuses them for another cause
-- than memory.
abbrev pub rows_by : App → List Text → Option (List Row)
rows_by app words = unless_refused (fault_of app words) (matches_of app words)

-- the value of an argument, which is there where it is required
abbrev pub value_of : Text → List Row → Text
value_of id rows = unwrap_or (first_of id rows) []

-- whether a flag is set
abbrev pub is_set : Text → List Row → Bool
is_set id rows = option_eq bytes_eq (first_of id rows) (Some (codes "true"))

-- the number of a text, where it is one from 1 to this
abbrev pub number_up_to : ℕ → List ℕ → Option ℕ
number_up_to most text = if is_natural text && (nat_lt 0 (natural_value text) && not (nat_lt most (natural_value text))) then Some (natural_value text) else None
