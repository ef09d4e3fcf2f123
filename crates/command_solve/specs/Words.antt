-- The words of `solve IN LIST LOG [--search S] [--turns T] [--learn N] [--log-version V] [--harden] [--boost]`.
use Rattle.std.specs.Prelude.{ℕ, ◌^◌, if◌then◌else◌, List, codes, Option, Some, None}
use Rattle.std.specs.Option.{option_and_then, option_map}
use Rattle.std.specs.Str.{bytes_eq}
use Rattle.clap.specs.Words.{App, Row, first_of, new_app, with_rule}
use Rattle.proof_text.specs.declared.version.LogVersion.{LogVersion}
use Rattle.proof_text.specs.declared.version.LogVersion.TheVariants.{One, Two}
use Rattle.certified_front.specs.declared.preparing.Plan.{Plan}
use Rattle.command_base.specs.CommandWords.{file_rule, flag_rule, is_set, number_up_to, option_rule, rows_by, value_of}
use Rattle.command_base.specs.InstanceFile.{format_of_three}
use Rattle.command_base.specs.declared.instance_file.Format.{Format}
use Rattle.command_solve.specs.TurnDigits.{turns_fit}
use Rattle.command_solve.specs.declared.Solve.{Solve}
use Rattle.command_solve.specs.declared.options.SearchKind.{SearchKind}
use Rattle.command_solve.specs.declared.options.SearchKind.TheVariants.{PMinimal, LowerBounding, BiOptSat, Turns}

-- what is asked for: the front of the instance in the first file, as a list and a log in the two others, by this search,
-- by these turns where it is a search in turns, with so many learned clauses at most as the limit says, a log of this version,
-- and what the plan says before the search
pub record SolveAsked : Type 0 where
  pub format : Format
  pub input : List ℕ
  pub list : List ℕ
  pub log : List ℕ
  pub search : SearchKind
  pub turns : Option (List ℕ)
  pub limit : Option ℕ
  pub version : LogVersion
  pub plan : Plan

abbrev pub asked : Solve → SolveAsked
asked c =
    record {
      format = c.format;
      input = c.input.now;
      list = c.list.now;
      log = c.log.now;
      search = c.search;
      turns = option_map (λ s. s.now) c.turns;
      limit = c.limit;
      version = c.version;
      plan = c.plan;
    }

-- the words, as clap reads them
abbrev pub solve_files : App
solve_files = with_rule (with_rule (with_rule (new_app (codes "solve")) (file_rule (codes "IN"))) (file_rule (codes "LIST"))) (file_rule (codes "LOG"))

abbrev pub solve_options : App
solve_options =
    with_rule (with_rule (with_rule (with_rule solve_files (option_rule (codes "search"))) (option_rule (codes "turns")))
    (option_rule (codes "learn"))) (option_rule (codes "log-version"))

abbrev pub solve_app : App
solve_app = with_rule (with_rule solve_options (flag_rule (codes "harden"))) (flag_rule (codes "boost"))

-- what is done before the search
abbrev pub plan_of_rows : List Row → Plan
plan_of_rows rows = record { harden = is_set (codes "harden") rows; boost = is_set (codes "boost") rows }

-- the search of this name
abbrev pub search_named : List ℕ → Option SearchKind
search_named name =
    if bytes_eq name (codes "p-minimal") then Some PMinimal
    else (if bytes_eq name (codes "lower-bounding") then Some LowerBounding
    else (if bytes_eq name (codes "bioptsat") then Some BiOptSat
    else (if bytes_eq name (codes "turns") then Some Turns else None)))

-- S of `--search S`, where it is given
abbrev pub search_of : Option (List ℕ) → Option SearchKind
search_of None = Some PMinimal
search_of (Some name) = search_named name

-- N of `--learn N`, where one is given: a number from 1 to 2^62
abbrev pub limit_of : Option (List ℕ) → Option (Option ℕ)
limit_of None = Some None
limit_of (Some text) = option_map (λ n. let limit : Option ℕ = Some n in limit) (number_up_to (2 ^ 62) text)

-- the version of this number
abbrev pub version_named : List ℕ → Option LogVersion
version_named name = if bytes_eq name (codes "1") then Some One else (if bytes_eq name (codes "2") then Some Two else None)

-- V of `--log-version V`, where it is given
abbrev pub version_of : Option (List ℕ) → Option LogVersion
version_of None = Some One
version_of (Some name) = version_named name

-- the search of this name, where it and these turns fit
abbrev pub search_with : Option (List ℕ) → Option (List ℕ) → Option SearchKind
search_with search turns = option_and_then (λ kind. if turns_fit kind turns then Some kind else None) (search_of search)

abbrev pub solve_by : List ℕ → List ℕ → List ℕ → Option (List ℕ) → Plan → Format → SearchKind → Option ℕ → LogVersion → SolveAsked
solve_by input list log turns plan format search limit version =
    record {
      format = format;
      input = input;
      list = list;
      log = log;
      search = search;
      turns = turns;
      limit = limit;
      version = version;
      plan = plan;
    }

-- the files, the search with its turns, the limit, the version and the plan, where none of them is refused
abbrev pub solve_of_values : (input list log : List ℕ) → (search turns learn version : Option (List ℕ)) → Plan → Option SolveAsked
solve_of_values input list log search turns learn version plan =
    option_and_then (λ format.
    option_and_then (λ kind.
    option_and_then (λ limit.
    option_map (solve_by input list log turns plan format kind limit)
    (version_of version)) (limit_of learn)) (search_with search turns)) (format_of_three input list log)

abbrev pub solve_of_rows : List Row → Option SolveAsked
solve_of_rows rows =
    solve_of_values (value_of (codes "IN") rows) (value_of (codes "LIST") rows) (value_of (codes "LOG") rows)
    (first_of (codes "search") rows) (first_of (codes "turns") rows) (first_of (codes "learn") rows) (first_of (codes "log-version") rows) (plan_of_rows rows)

-- What the words ask for, of which the first is `solve`; nothing where clap, the names or the options refuse them.
abbrev pub solve_asked : List (List ℕ) → Option SolveAsked
solve_asked words = option_and_then solve_of_rows (rows_by solve_app words)
