-- Where the command `models` completes.
use Rattle.std.proofs.Common.{ℕ, zero, ◌^◌, refl, inl, inr, arith}
use Rattle.std.specs.Prelude.{Option}
use Rattle.scut_base.specs.Files.{Files}
use Rattle.scut_base.specs.World.{World}
use Rattle.scut_base.proofs.FileLaws.{told_by_content}
use Rattle.instance.specs.declared.fault.InstanceLimit.TheVariants.{Bytes}
use Rattle.log_checker.specs.ListFaults.{IsListFault}
use Rattle.log_checker.specs.declared.fault.CheckFault.TheVariants.{ListRefused}
use Rattle.log_checker.specs.declared.fault.ListWhy.{ListWhy}
use Rattle.log_checker.proofs.ListLaws.{right_has_no_fault}
use Rattle.command_base.specs.Answering.{Answered}
use Rattle.command_base.specs.Inputs.{OfList}
use Rattle.command_base.specs.Views.{view}
use Rattle.command_base.specs.declared.status.Status.{Status}
use Rattle.command_base.specs.declared.status.Status.TheVariants.{Models, LogFull, Refused, TooLarge, NoMemory, ShelfFailed}
use Rattle.command_base.proofs.Readable.{list_fault, not_larger, readable}
use Rattle.command_check_models.specs.Table.{HasLargeInput}
use Rattle.command_check_models.specs.Words.{ModelsAsked}
use Rattle.command_models.specs.Table.{AreListable, ModelsCompletes, ModelsTable, models_calls}

module _ (a : ModelsAsked) (files : Option Files) (are : AreListable a files) where
  none_is_large : HasLargeInput files a → ⊥
  none_is_large (inl large) = not_larger files a.input are.text (2 ^ 32) are.there are.spelled.taken large
  none_is_large (inr of) = not_larger files a.list are.listed (2 ^ 32) are.list_there are.list_taken (of (told_by_content files a.input are.text are.there)).2.2

  no_list_refused : (k : ℕ) (why : ListWhy) → OfList files a.format a.input a.list (λ i listed. IsListFault i listed k why) → ⊥
  no_list_refused k why of =
      let short = are.list_taken in
      let fault = list_fault a.format a.input a.list files are.text are.listed are.instance are.there are.spelled are.list_there k why of in
      right_has_no_fault are.instance are.listed (omega arith) are.entries k why are.list_spelled are.right fault

pub models_completes : (a : ModelsAsked) (status : Status) (before after : World) → Answered (ModelsTable a) (models_calls a) status before after → ModelsCompletes a status before after
models_completes a (Models count) before after was are quiet other = tt
models_completes a (LogFull lines) before after was are quiet other = tt
models_completes a (Refused (ListRefused k why)) before after was are quiet other = absurd (no_list_refused a before.files are k why was.table.cause)
models_completes a (TooLarge zero Bytes) before after was are quiet other = absurd (none_is_large a before.files are was.table.cause)
models_completes a NoMemory before after was are quiet other = absurd (other refl)
models_completes a ShelfFailed before after was are quiet other = absurd (quiet (was.cause refl))
models_completes a status before after was are quiet other =
    absurd (readable a.format a.input are.text are.instance status (view before) (view after) are.there are.spelled was.table)
