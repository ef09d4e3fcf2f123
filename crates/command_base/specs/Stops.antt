-- Why a stage ends before its work is done, and the status of each.
use Rattle.std.specs.Prelude.{ℕ, ◌<◌, ◌≤◌, ◌^◌, List, length, Option}
use Rattle.scut_base.specs.Files.{Files}
use Rattle.scut_base.specs.Faults.{Faults, ReadingFailed}
use Rattle.instance.specs.declared.fault.InstanceLimit.TheVariants.{Bytes}
use Rattle.instance.specs.declared.fault.ReadFault.TheVariants.{Bad, Limit}
use Rattle.instance.specs.Shape.{InstanceValue}
use Rattle.proof_laws.specs.declared.why.Why.{Why}
use Rattle.log_checker.specs.declared.fault.CheckFault.TheVariants.{Refused as LineRefused, ListRefused}
use Rattle.log_checker.specs.ListFaults.{IsListFault}
use Rattle.command_base.specs.Causes.{HasText}
use Rattle.command_base.specs.Inputs.{OfInstance, OfList}
use Rattle.command_base.specs.InstanceFile.{HasFault}
use Rattle.command_base.specs.Taking.{IsTakenFault, IsTooLarge}
use Rattle.command_base.specs.declared.instance_file.Format.{Format}
use Rattle.command_base.specs.declared.status.Status.{Status}
use Rattle.command_base.specs.declared.status.Status.TheVariants.{Refused, BadInput, TooLarge, NoMemory, ShelfFailed}
use Rattle.command_base.specs.declared.stops.InputStop.{InputStop}
use Rattle.command_base.specs.declared.stops.InputStop.TheVariants.{Bad as BadText, Limit as LimitReached, Large as InputLarge, NoMemory as InputMemory, ShelfFailed as InputFailed}
use Rattle.command_base.specs.declared.stops.ListStop.{ListStop}
use Rattle.command_base.specs.declared.stops.ListStop.TheVariants.{Input as InputStopped, Refused as ListWrong, Large as ListLarge, NoMemory as ListMemory, ShelfFailed as ListFailed}
use Rattle.command_base.specs.declared.stops.LogStop.{LogStop}
use Rattle.command_base.specs.declared.stops.LogStop.TheVariants.{Refused as LineWrong, Large as LogLarge, NoMemory as LogMemory, ShelfFailed as LogFailed}

-- ---- when each comes

-- the instance file has a fault, which has a line from 1, or is too large
abbrev pub IsInputStop : Format → List ℕ → InputStop → Option Files → Faults → Faults → Type 0
IsInputStop format input (BadText line kind) files before after = HasText files input (HasFault format (Bad line kind))
IsInputStop format input (LimitReached line which) files before after = (0 < line) × HasText files input (HasFault format (Limit line which))
IsInputStop format input InputLarge files before after = HasText files input (λ text. 2 ^ 32 ≤ length text)
IsInputStop format input InputMemory files before after = Unit {0}
IsInputStop format input InputFailed files before after = ReadingFailed before after input

-- the list of this instance is refused, or too large
abbrev pub IsListStop : InstanceValue → List ℕ → ListStop → Option Files → Faults → Faults → Type 0
IsListStop i list (InputStopped stop) files before after = ⊥
IsListStop i list (ListWrong k why) files before after = HasText files list (λ listed. (length listed < 2 ^ 32) × IsListFault i listed k why)
IsListStop i list ListLarge files before after = HasText files list (λ listed. 2 ^ 32 ≤ length listed)
IsListStop i list ListMemory files before after = Unit {0}
IsListStop i list ListFailed files before after = ReadingFailed before after list

-- the instance file is stopped at; or it spells an instance, whose list is
abbrev pub IsListedStop : Format → (input list : List ℕ) → ListStop → Option Files → Faults → Faults → Type 0
IsListedStop format input list (InputStopped stop) files before after = IsInputStop format input stop files before after
IsListedStop format input list (ListWrong k why) files before after = OfList files format input list (λ i listed. IsListFault i listed k why)
IsListedStop format input list ListLarge files before after = OfInstance files format input (λ i. HasText files list (λ listed. 2 ^ 32 ≤ length listed))
IsListedStop format input list ListMemory files before after = Unit {0}
IsListedStop format input list ListFailed files before after = ReadingFailed before after list

-- a line of the log is refused, or the log is too large
abbrev pub IsLogStop : (whole every : List ℕ → ℕ → Why → Type 0) → List ℕ → LogStop → Option Files → Faults → Faults → Type 0
IsLogStop whole every log (LineWrong k why) files before after = HasText files log (λ bytes. IsTakenFault whole every bytes k why)
IsLogStop whole every log LogLarge files before after = HasText files log (IsTooLarge whole)
IsLogStop whole every log LogMemory files before after = Unit {0}
IsLogStop whole every log LogFailed files before after = ReadingFailed before after log

-- ---- the status of each

abbrev pub status_of_input : InputStop → Status
status_of_input (BadText line kind) = BadInput line kind
status_of_input (LimitReached line which) = TooLarge line which
status_of_input InputLarge = TooLarge 0 Bytes
status_of_input InputMemory = NoMemory
status_of_input InputFailed = ShelfFailed

abbrev pub status_of_list : ListStop → Status
status_of_list (InputStopped stop) = status_of_input stop
status_of_list (ListWrong entry why) = Refused (ListRefused entry why)
status_of_list ListLarge = TooLarge 0 Bytes
status_of_list ListMemory = NoMemory
status_of_list ListFailed = ShelfFailed

abbrev pub status_of_log : LogStop → Status
status_of_log (LineWrong line why) = Refused (LineRefused line why)
status_of_log LogLarge = TooLarge 0 Bytes
status_of_log LogMemory = NoMemory
status_of_log LogFailed = ShelfFailed
