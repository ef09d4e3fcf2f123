-- Instance files: their formats, and what their texts spell.
use Rattle.std.specs.Prelude.{◌≡◌, ℕ, ◌<◌, ◌^◌, ◌||◌, if◌then◌else◌, nat_eq, List, length, codes, Option, Some, None}
use Rattle.std.specs.List.{ends_with}
use Rattle.std.specs.Str.{bytes_eq}
use Rattle.instance.specs.Shape.{InstanceValue}
use Rattle.instance.specs.declared.fault.ReadFault.{ReadFault}
use Rattle.mcnf_reader.specs.Grammar.{Spells as SpellsMcnf}
use Rattle.mcnf_reader.specs.FirstFault.{first_fault as mcnf_fault}
use Rattle.mopb_reader.specs.Grammar.{Spells as SpellsOpb}
use Rattle.mopb_reader.specs.FirstFault.{first_fault as opb_fault}
use Rattle.command_base.specs.declared.instance_file.Format.{Format}
use Rattle.command_base.specs.declared.instance_file.Format.TheVariants.{Mcnf, Opb}

-- the format of an instance file, by the ending of its name
abbrev pub format_of : List ℕ → Option Format
format_of name =
    if ends_with nat_eq name (codes ".mcnf") then Some Mcnf
    else (if ends_with nat_eq name (codes ".opb") || ends_with nat_eq name (codes ".mopb") then Some Opb else None)

-- the format of the first of three files with different names
abbrev pub format_of_three : List ℕ → List ℕ → List ℕ → Option Format
format_of_three input list log =
    if bytes_eq input list then None
    else (if bytes_eq input log then None
    else (if bytes_eq list log then None else format_of input))

-- which text spells which instance
abbrev pub SpellsIn : Format → List ℕ → InstanceValue → Type 0
SpellsIn Mcnf text i = SpellsMcnf text i
SpellsIn Opb text i = SpellsOpb text i

-- the first fault of a text
abbrev pub fault_in : Format → List ℕ → Option ReadFault
fault_in Mcnf text = mcnf_fault text
fault_in Opb text = opb_fault text

-- the text is one that a reader takes, and this is its first fault
pub record HasFault (format : Format) (fault : ReadFault) (text : List ℕ) : Type 0 where
  pub taken : length text < 2 ^ 32
  pub first : fault_in format text ≡ Some fault

-- the text is one that a reader takes, and it spells this instance
pub record IsTextOf (format : Format) (i : InstanceValue) (text : List ℕ) : Type 0 where
  pub taken : length text < 2 ^ 32
  pub spelled : SpellsIn format text i
