-- What an instance is made from: a number, how many items it has, and how many objectives.
use Rattle.std.specs.Prelude.{ℕ, ◌≤◌, ◌-◌, ◌^◌, ◌&&◌, not, nat_lt, if◌then◌else◌, List, Option, Some, None}
use Rattle.std.specs.Option.{option_and_then, option_map}
use Rattle.scut_base.specs.Number.{is_natural, natural_value}
use Rattle.instance.specs.Shape.{InstanceValue}
use Rattle.command_gen.specs.Generated.{generated}
use Rattle.command_gen.specs.Printed.{mcnf_text}

pub record OriginValue : Type 0 where
  pub number : ℕ
  pub vars : ℕ
  pub objectives : ℕ

-- its sizes are those that may be asked for
pub record IsOrigin (o : OriginValue) : Type 0 where
  pub vars : (3 ≤ o.vars) × (o.vars ≤ 4096)
  pub objectives : (1 ≤ o.objectives) × (o.objectives ≤ 64)

-- the instance that is made from it
abbrev pub instance_from : OriginValue → InstanceValue
instance_from o = generated o.number o.vars o.objectives

-- and its text
abbrev pub text_from : OriginValue → List ℕ
text_from o = mcnf_text (instance_from o)

-- ---- in words

-- a number from low to high, of decimal digits
abbrev pub number_within : ℕ → ℕ → List ℕ → Option ℕ
number_within low high text =
    if is_natural text && (not (nat_lt (natural_value text) low) && not (nat_lt high (natural_value text))) then Some (natural_value text) else None

abbrev pub origin_by : ℕ → ℕ → ℕ → OriginValue
origin_by number vars objectives = record { number = number; vars = vars; objectives = objectives }

-- a number of 64 bits, from 3 to 4096 items, and from 1 to 64 objectives
abbrev pub origin_of : List ℕ → List ℕ → List ℕ → Option OriginValue
origin_of number vars objectives =
    option_and_then (λ n. option_and_then (λ v. option_map (origin_by n v) (number_within 1 64 objectives)) (number_within 3 4096 vars)) (number_within 0 (2 ^ 64 - 1) number)
