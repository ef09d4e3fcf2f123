-- What the private functions that judge models answer. No public contract stands on it.
use Rattle.std.specs.Prelude.{Bool, List, ℤ}
use Rattle.instance.specs.Shape.{InstanceValue}
use Rattle.representatives.specs.Judged.{HasWrongModel}
use Rattle.representatives.specs.declared.fault.RepsFault.{RepsFault}
use Rattle.representatives.specs.declared.fault.RepsFault.TheVariants.{Refused, NoMemory}

-- the first of the models that is wrong, or want of memory
abbrev pub IsModelsFault : InstanceValue → List ℤ → List (List Bool) → RepsFault → Type 0
IsModelsFault i v models (Refused why) = HasWrongModel i v models why
IsModelsFault i v models NoMemory = Unit {0}
