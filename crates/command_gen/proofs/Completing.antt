-- Where the command `gen` completes.
use Rattle.std.proofs.Common.{refl}
use Rattle.scut_base.specs.World.{World}
use Rattle.command_base.specs.Answering.{Answered}
use Rattle.command_base.specs.declared.status.Status.{Status}
use Rattle.command_base.specs.declared.status.Status.TheVariants.{Done, NoMemory, ShelfFailed}
use Rattle.command_gen.specs.Table.{GenCompletes, GenTable, gen_calls}
use Rattle.command_gen.specs.Words.{GenAsked}

pub gen_completes : (a : GenAsked) (status : Status) (before after : World) → Answered (GenTable a) (gen_calls a) status before after → GenCompletes a status before after
gen_completes a Done before after was needs quiet other = tt
gen_completes a NoMemory before after was needs quiet other = other refl
gen_completes a ShelfFailed before after was needs quiet other = quiet (was.cause refl)
gen_completes a status before after was needs quiet other = was.table
