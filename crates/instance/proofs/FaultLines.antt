-- The line of a fault.
use Rattle.std.proofs.Common.{◌≡◌, ℕ, ◌<◌, subst}
use Rattle.std.specs.Prelude.{Some}
use Rattle.instance.specs.declared.fault.PlaceFault.{PlaceFault}
use Rattle.instance.specs.declared.fault.PlaceFault.TheVariants.{Bad, Limit, NoMemory}
use Rattle.instance.specs.declared.fault.ReadFault.{ReadFault}
use Rattle.instance.specs.Reading.{at_line, HasLine}

-- the fault of a place in a line from 1 has a line
line_of_place : (n : ℕ) (f : PlaceFault) → 0 < n → HasLine (at_line n f)
line_of_place n (Bad kind) some = some
line_of_place n (Limit which) some = some
line_of_place n NoMemory some = tt

-- so has what is that fault
pub has_line : (n : ℕ) (f : PlaceFault) (g : ReadFault) → 0 < n → Some (at_line n f) ≡ Some g → HasLine g
has_line n f g some same = (let is : at_line n f ≡ g = cc in subst HasLine is (line_of_place n f some))
