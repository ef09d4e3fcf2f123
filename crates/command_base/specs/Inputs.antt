-- What a command knows of the files that it reads first: the instance file IN, and a list file LIST.
use Rattle.std.specs.Prelude.{ℕ, ◌<◌, ◌^◌, true, List, length, Option}
use Rattle.scut_base.specs.Files.{Files}
use Rattle.front_set.specs.declared.entry.Entry.{Entry}
use Rattle.front_text.specs.Spelling.{Spells}
use Rattle.instance.specs.ParetoFront.{AreProblemVectors}
use Rattle.instance.specs.Shape.{InstanceValue, IsWithinLimits}
use Rattle.instance_normal.specs.NormalForm.{IsNormalFormOf}
use Rattle.log_checker.specs.Accepted.{IsRightList}
use Rattle.pb_lin.specs.Problem.{ProblemValue}
use Rattle.command_base.specs.Causes.{HasText}
use Rattle.command_base.specs.InstanceFile.{IsTextOf}
use Rattle.command_base.specs.declared.instance_file.Format.{Format}

-- ---- what the files hold

-- IN spells an instance, of which P holds
abbrev pub OfInstance : Option Files → Format → List ℕ → (InstanceValue → Type 0) → Type 0
OfInstance files format input P = HasText files input (λ text. (i : InstanceValue) × IsTextOf format i text × P i)

-- and LIST is no larger than it may be, and P holds of both
abbrev pub OfList : Option Files → Format → (input list : List ℕ) → (InstanceValue → List ℕ → Type 0) → Type 0
OfList files format input list P = OfInstance files format input (λ i. HasText files list (λ listed. (length listed < 2 ^ 32) × P i listed))

-- ---- what was read

-- IN spells this instance, and this is its normal form
pub record IsInput (files : Option Files) (format : Format) (input : List ℕ) (i : InstanceValue) (p : ProblemValue) : Type 0 where
  pub text : HasText files input (IsTextOf format i)
  pub limits : IsWithinLimits i
  pub normal : IsNormalFormOf i p

-- and LIST is the list of right entries
pub record IsListed (files : Option Files) (format : Format) (input list : List ℕ) (i : InstanceValue) (p : ProblemValue) (entries : List Entry) : Type 0 where
  pub read : IsInput files format input i p
  pub listed : HasText files list (λ listed. (length listed < 2 ^ 32) × Spells listed true entries)
  pub right : IsRightList i entries
  pub vectors : AreProblemVectors i entries
