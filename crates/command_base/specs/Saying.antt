-- What a command says at its end.
use Rattle.std.specs.Prelude.{◌≡◌, ◌⊎◌}
use Rattle.scut_base.specs.Files.{followed, IsPartlyFollowed}
use Rattle.scut_base.specs.Faults.{NoneFell, SayingFailed}
use Rattle.scut_base.specs.World.{World}
use Rattle.scut_base.specs.declared.shelf.ShelfFault.{ShelfFault}
use Rattle.scut_base.specs.declared.shelf.ShelfFault.TheVariants.{Failed}
use Rattle.command_base.specs.Messages.{said_of}
use Rattle.command_base.specs.Statuses.{status_of_shelf}
use Rattle.command_base.specs.declared.status.Status.{Status}

-- the whole line of the status was said, which is the answer
pub record IsSaid (status result : Status) (before after : World) : Type 0 where
  pub same : result ≡ status
  pub said : after.said ≡ followed before.said (said_of status)

-- a part of it was said, and the answer is the fault's
pub record IsPartlySaid (status result : Status) (before after : World) : Type 0 where
  pub fault : ShelfFault
  pub same : result ≡ status_of_shelf fault
  pub said : IsPartlyFollowed before.said after.said (said_of status)
  pub failed : fault ≡ Failed → SayingFailed before.faults after.faults

-- The line of a status is said, and nothing else is done.
pub record Says (status result : Status) (before after : World) : Type 0 where
  pub said : IsSaid status result before after ⊎ IsPartlySaid status result before after
  pub files : after.files ≡ before.files
  pub warned : after.warned ≡ before.warned
  pub later : NoneFell before.faults after.faults
