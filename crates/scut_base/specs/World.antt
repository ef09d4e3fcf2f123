-- The outside as a shelf tells it.
use Rattle.std.specs.Prelude.{ℕ, List, Option}
use Rattle.scut_base.specs.Files.{Files}
use Rattle.scut_base.specs.Faults.{Faults}

-- what a shelf tells: its files, what was said and warned, each where it tells it, and its counts of faults
pub record World : Type 0 where
  pub files : Option Files
  pub said : Option (List ℕ)
  pub warned : Option (List ℕ)
  pub faults : Faults
