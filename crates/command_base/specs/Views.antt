-- What a command does to the outside.
use Rattle.std.specs.Prelude.{◌≡◌, ℕ, List, Option}
use Rattle.scut_base.specs.Faults.{NoneFell}
use Rattle.scut_base.specs.Files.{Files}
use Rattle.scut_base.specs.World.{World}

-- what a command's table speaks of: the files and what was said, each where it is told. A warning changes nothing of it.
pub record View : Type 0 where
  pub files : Option Files
  pub said : Option (List ℕ)

abbrev pub view : World → View
view w = record { files = w.files; said = w.said }

-- nothing has changed but the counts of faults, and none of these has fallen
pub record OnlyReads (before after : World) : Type 0 where
  pub files : after.files ≡ before.files
  pub said : after.said ≡ before.said
  pub warned : after.warned ≡ before.warned
  pub later : NoneFell before.faults after.faults
