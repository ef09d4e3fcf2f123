-- The stops that the faults of a stage's calls come to.
use Rattle.scut_base.specs.declared.shelf.ShelfFault.{ShelfFault}
use Rattle.scut_base.specs.declared.shelf.ShelfFault.TheVariants.{Failed, NoMemory as ShelfNoMemory}
use Rattle.instance.specs.declared.fault.ReadFault.{ReadFault}
use Rattle.instance.specs.declared.fault.ReadFault.TheVariants.{Bad as BadPlace, Limit as LimitThere, NoMemory as ReadNoMemory}
use Rattle.command_base.specs.declared.log_file.LineFault.{LineFault}
use Rattle.command_base.specs.declared.log_file.LineFault.TheVariants.{Refused as LineRefused, NoMemory as LineNoMemory}
use Rattle.command_base.specs.declared.stops.InputStop.{InputStop}
use Rattle.command_base.specs.declared.stops.InputStop.TheVariants.{Bad, Limit, NoMemory as InputNoMemory, ShelfFailed as InputShelfFailed}
use Rattle.command_base.specs.declared.stops.ListStop.{ListStop}
use Rattle.command_base.specs.declared.stops.ListStop.TheVariants.{NoMemory as ListNoMemory, ShelfFailed as ListShelfFailed}
use Rattle.command_base.specs.declared.stops.LogStop.{LogStop}
use Rattle.command_base.specs.declared.stops.LogStop.TheVariants.{Refused, NoMemory as LogNoMemory, ShelfFailed as LogShelfFailed}

abbrev pub input_of_shelf : ShelfFault → InputStop
input_of_shelf Failed = InputShelfFailed
input_of_shelf ShelfNoMemory = InputNoMemory

abbrev pub input_of_reading : ReadFault → InputStop
input_of_reading (BadPlace line kind) = Bad line kind
input_of_reading (LimitThere line which) = Limit line which
input_of_reading ReadNoMemory = InputNoMemory

abbrev pub list_of_shelf : ShelfFault → ListStop
list_of_shelf Failed = ListShelfFailed
list_of_shelf ShelfNoMemory = ListNoMemory

abbrev pub log_of_shelf : ShelfFault → LogStop
log_of_shelf Failed = LogShelfFailed
log_of_shelf ShelfNoMemory = LogNoMemory

abbrev pub log_of_line : LineFault → LogStop
log_of_line (LineRefused line why) = Refused line why
log_of_line LineNoMemory = LogNoMemory
