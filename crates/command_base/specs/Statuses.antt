-- The numbers with which the program ends, and the statuses that faults come to.
use Rattle.std.specs.Prelude.{ℕ, ◌^◌}
use Rattle.scut_base.specs.declared.shelf.ShelfFault.{ShelfFault}
use Rattle.scut_base.specs.declared.shelf.ShelfFault.TheVariants.{Failed, NoMemory as ShelfNoMemory}
use Rattle.proof_rules.specs.declared.recorder.RecordFault.{RecordFault}
use Rattle.proof_rules.specs.declared.recorder.RecordFault.TheVariants.{Failed as RecordFailed, Full as RecordFull, NoMemory as RecordNoMemory}
use Rattle.command_base.specs.declared.status.Status.{Status}
use Rattle.command_base.specs.declared.status.Status.TheVariants.{Done, Complete, Incomplete, Trimmed, Models, Accepted, Refused, ModelsRefused, Usage, BadInput, TooLarge, LogFull, NoMemory, ShelfFailed}

-- the number with which the program ends
abbrev pub status_number : Status → ℕ
status_number Done = 0
status_number (Complete size) = 0
status_number (Incomplete size learned) = 10
status_number (Trimmed kept total) = 0
status_number (Models entries) = 0
status_number Accepted = 0
status_number (Refused fault) = 11
status_number (ModelsRefused entry why) = 11
status_number Usage = 64
status_number (BadInput line kind) = 65
status_number (TooLarge line which) = 66
status_number (LogFull lines) = 67
status_number NoMemory = 71
status_number ShelfFailed = 74

-- the status of a fault of the shelf
abbrev pub status_of_shelf : ShelfFault → Status
status_of_shelf Failed = ShelfFailed
status_of_shelf ShelfNoMemory = NoMemory

-- the status of a fault of a log that is written
abbrev pub status_of_recording : RecordFault → Status
status_of_recording RecordFailed = ShelfFailed
status_of_recording RecordFull = LogFull (2 ^ 61)
status_of_recording RecordNoMemory = NoMemory
