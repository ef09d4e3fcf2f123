-- What a reader of instances answers where it refuses a text.
use Rattle.std.specs.Prelude.{◌≡◌, ℕ, ◌<◌, Option, Some}
use Rattle.instance.specs.declared.fault.PlaceFault.{PlaceFault}
use Rattle.instance.specs.declared.fault.PlaceFault.TheVariants.{Bad as BadPlace, Limit as LimitThere, NoMemory as PlaceNoMemory}
use Rattle.instance.specs.declared.fault.ReadFault.{ReadFault}
use Rattle.instance.specs.declared.fault.ReadFault.TheVariants.{Bad, Limit, NoMemory}

-- the fault of a place in this line
abbrev pub at_line : ℕ → PlaceFault → ReadFault
at_line line (BadPlace kind) = Bad line kind
at_line line (LimitThere which) = Limit line which
at_line line PlaceNoMemory = NoMemory

-- This is the first fault of a text, or want of memory.
abbrev pub IsFaultOf : Option ReadFault → ReadFault → Type 0
IsFaultOf first (Bad line kind) = first ≡ Some (Bad line kind)
IsFaultOf first (Limit line which) = first ≡ Some (Limit line which)
IsFaultOf first NoMemory = Unit {0}

-- This is the first fault of a place, or want of memory.
abbrev pub IsPlaceFaultOf : Option PlaceFault → PlaceFault → Type 0
IsPlaceFaultOf first (BadPlace kind) = first ≡ Some (BadPlace kind)
IsPlaceFaultOf first (LimitThere which) = first ≡ Some (LimitThere which)
IsPlaceFaultOf first PlaceNoMemory = Unit {0}

-- the line of the fault, if it has one, is counted from 1
abbrev pub HasLine : ReadFault → Type 0
HasLine (Bad line kind) = 0 < line
HasLine (Limit line which) = 0 < line
HasLine NoMemory = Unit {0}
