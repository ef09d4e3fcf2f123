-- The words of `gen NUMBER VARS OBJECTIVES OUT`.
use Rattle.std.specs.Prelude.{if◌then◌else◌, ℕ, nat_eq, List, codes, Option, None}
use Rattle.std.specs.List.{ends_with}
use Rattle.std.specs.Option.{option_and_then, option_map}
use Rattle.clap.specs.Words.{App, Row, new_app, with_rule}
use Rattle.command_base.specs.CommandWords.{file_rule, rows_by, value_of}
use Rattle.command_gen.specs.Origin.{OriginValue, origin_of}
use Rattle.command_gen.specs.declared.Gen.{Gen}

-- what is asked for: the text of an instance that is made from this, in this file
pub record GenAsked : Type 0 where
  pub origin : OriginValue
  pub out : List ℕ

abbrev pub asked : Gen → GenAsked
asked c = record { origin = c.origin; out = c.out.now }

-- the words, as clap reads them
abbrev pub gen_sizes : App
gen_sizes = with_rule (with_rule (with_rule (new_app (codes "gen")) (file_rule (codes "NUMBER"))) (file_rule (codes "VARS"))) (file_rule (codes "OBJECTIVES"))

abbrev pub gen_app : App
gen_app = with_rule gen_sizes (file_rule (codes "OUT"))

-- three numbers, and the name of an instance file of hard and soft clauses
abbrev pub gen_of_values : List ℕ → List ℕ → List ℕ → List ℕ → Option GenAsked
gen_of_values number vars objectives out =
    if ends_with nat_eq out (codes ".mcnf") then option_map (λ origin. let a : GenAsked = record { origin = origin; out = out } in a) (origin_of number vars objectives)
    else None

abbrev pub gen_of_rows : List Row → Option GenAsked
gen_of_rows rows = gen_of_values (value_of (codes "NUMBER") rows) (value_of (codes "VARS") rows) (value_of (codes "OBJECTIVES") rows) (value_of (codes "OUT") rows)

-- What the words ask for, of which the first is `gen`; nothing where clap, the numbers or the name refuse them.
abbrev pub gen_asked : List (List ℕ) → Option GenAsked
gen_asked words = option_and_then gen_of_rows (rows_by gen_app words)
