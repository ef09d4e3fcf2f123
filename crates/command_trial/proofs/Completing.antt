-- Where the command `trial` completes.
use Rattle.std.proofs.Common.{zero, refl}
use Rattle.scut_base.specs.World.{World}
use Rattle.instance.specs.declared.fault.InstanceLimit.TheVariants.{Bytes}
use Rattle.command_base.specs.Answering.{Answered}
use Rattle.command_base.specs.declared.status.Status.{Status}
use Rattle.command_base.specs.declared.status.Status.TheVariants.{Accepted, Refused, Usage, BadInput, TooLarge, LogFull, NoMemory, ShelfFailed}
use Rattle.command_trial.specs.Table.{TrialCompletes, TrialTable, trial_calls}
use Rattle.command_trial.specs.Words.{TrialAsked}

pub trial_completes : (a : TrialAsked) (status : Status) (before after : World) → Answered (TrialTable a) (trial_calls a) status before after → TrialCompletes a status before after
trial_completes a Accepted before after was told quiet other = tt
trial_completes a (TooLarge zero Bytes) before after was told quiet other = tt
trial_completes a (LogFull lines) before after was told quiet other = tt
trial_completes a NoMemory before after was told quiet other = other refl
trial_completes a ShelfFailed before after was told quiet other = quiet (was.cause refl)
trial_completes a (TooLarge line which) before after was told quiet other = was.table told
trial_completes a (BadInput line kind) before after was told quiet other = was.table told
trial_completes a (Refused fault) before after was told quiet other = was.table told
trial_completes a Usage before after was told quiet other = was.table told
trial_completes a status before after was told quiet other = was.table
