-- When a front is empty.
use Rattle.std.specs.Prelude.{Bool, List}
use Rattle.instance.specs.Meaning.{IsModel}
use Rattle.instance.specs.Shape.{InstanceValue}

abbrev pub HasNoModel : InstanceValue → Type 0
HasNoModel i = (a : List Bool) → IsModel i a → ⊥
