-- The words of `trial NUMBER VARS OBJECTIVES BASE`, and its three parts.
use Rattle.std.specs.Prelude.{◌≡◌, ℕ, ◌++◌, false, List, codes, Option, None}
use Rattle.std.specs.Option.{option_and_then, option_map}
use Rattle.clap.specs.Words.{App, Row, new_app, with_rule}
use Rattle.proof_text.specs.declared.version.LogVersion.TheVariants.{One}
use Rattle.command_base.specs.CommandWords.{file_rule, rows_by, value_of}
use Rattle.command_base.specs.declared.instance_file.Format.TheVariants.{Mcnf}
use Rattle.command_gen.specs.Origin.{OriginValue, origin_of}
use Rattle.command_gen.specs.Words.{GenAsked}
use Rattle.command_solve.specs.Words.{SolveAsked}
use Rattle.command_solve.specs.declared.options.SearchKind.TheVariants.{PMinimal}
use Rattle.command_check.specs.Words.{CheckAsked}
use Rattle.command_trial.specs.declared.Trial.{Trial}

-- what is asked for: an instance that is made from this, solved and checked, in three files whose names begin so
pub record TrialAsked : Type 0 where
  pub origin : OriginValue
  pub base : List ℕ

abbrev pub asked : Trial → TrialAsked
asked c = record { origin = c.origin; base = c.base.now }

-- ---- its files

abbrev pub instance_name : TrialAsked → List ℕ
instance_name a = a.base ++ codes ".mcnf"

abbrev pub list_name : TrialAsked → List ℕ
list_name a = a.base ++ codes ".list"

abbrev pub log_name : TrialAsked → List ℕ
log_name a = a.base ++ codes ".log"

-- these are their names
pub record AreNames (a : TrialAsked) (input list log : List ℕ) : Type 0 where
  pub is_input : input ≡ instance_name a
  pub is_list : list ≡ list_name a
  pub is_log : log ≡ log_name a

-- ---- its parts

abbrev pub gen_in : OriginValue → List ℕ → GenAsked
gen_in origin input = record { origin = origin; out = input }

abbrev pub solve_in : (input list log : List ℕ) → SolveAsked
solve_in input list log =
    record { format = Mcnf; input = input; list = list; log = log; search = PMinimal; turns = None; limit = None; version = One; plan = record { harden = false; boost = false } }

abbrev pub check_in : (input list log : List ℕ) → CheckAsked
check_in input list log = record { format = Mcnf; input = input; list = list; log = log }

-- the first part
abbrev pub gen_part : TrialAsked → GenAsked
gen_part a = gen_in a.origin (instance_name a)

-- the second
abbrev pub solve_part : TrialAsked → SolveAsked
solve_part a = solve_in (instance_name a) (list_name a) (log_name a)

-- the third
abbrev pub check_part : TrialAsked → CheckAsked
check_part a = check_in (instance_name a) (list_name a) (log_name a)

-- ---- its words

-- as clap reads them
abbrev pub trial_sizes : App
trial_sizes = with_rule (with_rule (with_rule (new_app (codes "trial")) (file_rule (codes "NUMBER"))) (file_rule (codes "VARS"))) (file_rule (codes "OBJECTIVES"))

abbrev pub trial_app : App
trial_app = with_rule trial_sizes (file_rule (codes "BASE"))

-- three numbers, and the beginning of names
abbrev pub trial_of_values : List ℕ → List ℕ → List ℕ → List ℕ → Option TrialAsked
trial_of_values number vars objectives base = option_map (λ origin. let a : TrialAsked = record { origin = origin; base = base } in a) (origin_of number vars objectives)

abbrev pub trial_of_rows : List Row → Option TrialAsked
trial_of_rows rows = trial_of_values (value_of (codes "NUMBER") rows) (value_of (codes "VARS") rows) (value_of (codes "OBJECTIVES") rows) (value_of (codes "BASE") rows)

-- What the words ask for, of which the first is `trial`; nothing where clap or the numbers refuse them.
abbrev pub trial_asked : List (List ℕ) → Option TrialAsked
trial_asked words = option_and_then trial_of_rows (rows_by trial_app words)
