-- The words of `check-models IN LIST K BASE`; those of `models` are the same but for the first.
use Rattle.std.specs.Prelude.{◌≡◌, ◌<◌, ◌≤◌, ◌^◌, ◌++◌, ◌||◌, nat_eq, if◌then◌else◌, ℕ, Bool, false, List, codes, Option, Some, None}
use Rattle.std.specs.Fmt.{decimal}
use Rattle.std.specs.List.{starts_with}
use Rattle.std.specs.Option.{option_and_then, option_map}
use Rattle.std.specs.Str.{bytes_eq}
use Rattle.clap.specs.Words.{App, Row, new_app, with_rule}
use Rattle.command_base.specs.CommandWords.{file_rule, number_up_to, rows_by, value_of}
use Rattle.command_base.specs.InstanceFile.{format_of}
use Rattle.command_base.specs.declared.instance_file.Format.{Format}

-- what is asked for: for each entry of the list in the second file, for the instance in the first, up to so many models; they stand in
-- files whose names begin with the base
pub record ModelsAsked : Type 0 where
  pub format : Format
  pub input : List ℕ
  pub list : List ℕ
  pub most : ℕ
  pub base : List ℕ

-- ---- its files

-- the text of all models
abbrev pub models_name : List ℕ → List ℕ
models_name base = base ++ codes ".models"

-- the log of entry n, counted from 1
abbrev pub log_name : List ℕ → ℕ → List ℕ
log_name base n = base ++ codes "." ++ decimal n ++ codes ".log"

-- the name begins with the base and a dot, as those of these files do
abbrev pub begins_with : List ℕ → List ℕ → Bool
begins_with base name = starts_with nat_eq name (base ++ codes ".")

-- ---- its words

-- as clap reads them, of which the first is this
abbrev pub list_app : List ℕ → App
list_app name = with_rule (with_rule (new_app name) (file_rule (codes "IN"))) (file_rule (codes "LIST"))

abbrev pub models_app : List ℕ → App
models_app name = with_rule (with_rule (list_app name) (file_rule (codes "K"))) (file_rule (codes "BASE"))

-- two names are the same, or one of them begins as those of the files that are made
abbrev pub names_clash : List ℕ → List ℕ → List ℕ → Bool
names_clash input list base = bytes_eq input list || (begins_with base input || begins_with base list)

abbrev pub models_by : List ℕ → List ℕ → List ℕ → Format → ℕ → ModelsAsked
models_by input list base format most = record { format = format; input = input; list = list; most = most; base = base }

-- two names that don't clash, the first of an instance file, and K, a number from 1 to 2^20
abbrev pub models_of_values : (input list most base : List ℕ) → Option ModelsAsked
models_of_values input list most base =
    if names_clash input list base then None
    else option_and_then (λ format. option_map (models_by input list base format) (number_up_to (2 ^ 20) most)) (format_of input)

abbrev pub models_of_rows : List Row → Option ModelsAsked
models_of_rows rows = models_of_values (value_of (codes "IN") rows) (value_of (codes "LIST") rows) (value_of (codes "K") rows) (value_of (codes "BASE") rows)

-- What the words ask for, of which the first is this; nothing where clap, the names or the number refuse them.
abbrev pub models_asked_by : List ℕ → List (List ℕ) → Option ModelsAsked
models_asked_by name words = option_and_then models_of_rows (rows_by (models_app name) words)

-- The same of `check-models`.
abbrev pub check_models_asked : List (List ℕ) → Option ModelsAsked
check_models_asked words = models_asked_by (codes "check-models") words

-- what was asked for can be done: the number is one that is taken, and the names don't clash
pub record IsRequest (a : ModelsAsked) : Type 0 where
  pub some : 0 < a.most
  pub few : a.most ≤ 2 ^ 20
  pub input : begins_with a.base a.input ≡ false
  pub list : begins_with a.base a.list ≡ false
