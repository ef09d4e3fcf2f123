-- What a call answers that stops at a fault.
use Rattle.std.specs.Prelude.{◌≡◌, ◌⊎◌, Option, Some}

-- Memory was refused, which the first fault stands for, or it is the fault that there is.
abbrev pub IsFaultOr : {F : Type 0} → F → Option F → F → Type 0
IsFaultOr no_memory fault f = (f ≡ no_memory) ⊎ (fault ≡ Some f)
