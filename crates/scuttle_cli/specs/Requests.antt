-- What the words of a command line ask for.
use Rattle.std.specs.Prelude.{ℕ, if◌then◌else◌, List, [], ◌∷◌, codes, Option, Some, None}
use Rattle.std.specs.Option.{option_map}
use Rattle.std.specs.Str.{bytes_eq}
use Rattle.command_front.specs.Words.{FrontAsked, front_asked}
use Rattle.command_solve.specs.Words.{SolveAsked, solve_asked}
use Rattle.command_check.specs.Words.{CheckAsked, check_asked}
use Rattle.command_upgrade.specs.Words.{UpgradeAsked, upgrade_asked}
use Rattle.command_elaborate.specs.Words.{ElaborateAsked, elaborate_asked}
use Rattle.command_trim.specs.Words.{TrimAsked, trim_asked}
use Rattle.command_check_models.specs.Words.{ModelsAsked, check_models_asked}
use Rattle.command_models.specs.Words.{models_asked}
use Rattle.command_gen.specs.Words.{GenAsked, gen_asked}
use Rattle.command_trial.specs.Words.{TrialAsked, trial_asked}
use Rattle.scuttle_cli.specs.declared.names.CommandName.{CommandName}
use Rattle.scuttle_cli.specs.declared.names.CommandName.TheVariants.{Front, Solve, Check, Upgrade, Elaborate, Trim, Models, CheckModels, Gen, Trial}

-- a command with its files and options
pub data Request : Type 0 where
  FrontOf : (asked : FrontAsked) → Request
  SolveOf : (asked : SolveAsked) → Request
  CheckOf : (asked : CheckAsked) → Request
  UpgradeOf : (asked : UpgradeAsked) → Request
  ElaborateOf : (asked : ElaborateAsked) → Request
  TrimOf : (asked : TrimAsked) → Request
  ModelsOf : (asked : ModelsAsked) → Request
  CheckModelsOf : (asked : ModelsAsked) → Request
  GenOf : (asked : GenAsked) → Request
  TrialOf : (asked : TrialAsked) → Request

-- the command of this name
abbrev pub command_named : List ℕ → Option CommandName
command_named word =
    if bytes_eq word (codes "front") then Some Front
    else (if bytes_eq word (codes "solve") then Some Solve
    else (if bytes_eq word (codes "check") then Some Check
    else (if bytes_eq word (codes "upgrade") then Some Upgrade
    else (if bytes_eq word (codes "elaborate") then Some Elaborate
    else (if bytes_eq word (codes "trim") then Some Trim
    else (if bytes_eq word (codes "models") then Some Models
    else (if bytes_eq word (codes "check-models") then Some CheckModels
    else (if bytes_eq word (codes "gen") then Some Gen
    else (if bytes_eq word (codes "trial") then Some Trial else None)))))))))

-- the command that the first word names
abbrev pub command_in : List (List ℕ) → Option CommandName
command_in [] = None
command_in (word ∷ words) = command_named word

-- what the words ask of a command
abbrev pub request_by : Option CommandName → List (List ℕ) → Option Request
request_by None words = None
request_by (Some Front) words = option_map FrontOf (front_asked words)
request_by (Some Solve) words = option_map SolveOf (solve_asked words)
request_by (Some Check) words = option_map CheckOf (check_asked words)
request_by (Some Upgrade) words = option_map UpgradeOf (upgrade_asked words)
request_by (Some Elaborate) words = option_map ElaborateOf (elaborate_asked words)
request_by (Some Trim) words = option_map TrimOf (trim_asked words)
request_by (Some Models) words = option_map ModelsOf (models_asked words)
request_by (Some CheckModels) words = option_map CheckModelsOf (check_models_asked words)
request_by (Some Gen) words = option_map GenOf (gen_asked words)
request_by (Some Trial) words = option_map TrialOf (trial_asked words)

-- What the words ask for. Words that are none of a command ask for nothing.
abbrev pub request_of : List (List ℕ) → Option Request
request_of words = request_by (command_in words) words
