-- The answers of `front IN LIST`, a record for each.
use Rattle.std.specs.Prelude.{◌≡◌, ℕ, zero, ◌<◌, ◌≤◌, ◌⊎◌, ◌↔◌, true, List, [], ◌∷◌, length, Option, Some}
use Rattle.scut_base.specs.Files.{Files, content, with_file, IsTouched, IsPrefixOf, followed, IsPartlyFollowed}
use Rattle.scut_base.specs.World.{World}
use Rattle.front_set.specs.declared.entry.Entry.{Entry}
use Rattle.front_set.specs.ListText.{list_text}
use Rattle.instance.specs.declared.fault.InstanceLimit.TheVariants.{Vars}
use Rattle.instance.specs.Shape.{InstanceValue}
use Rattle.instance.specs.ParetoFront.{IsFront}
use Rattle.command_base.specs.Answering.{Call, Completes, Runs, appending, beginning, reading, saying}
use Rattle.command_base.specs.Causes.{HasText, IsRefused}
use Rattle.command_base.specs.InputTable.{InputTable}
use Rattle.command_base.specs.InstanceFile.{IsTextOf}
use Rattle.command_base.specs.ListSizes.{HasNoModel}
use Rattle.command_base.specs.Messages.{said_of}
use Rattle.command_base.specs.Views.{View}
use Rattle.command_base.specs.declared.instance_file.Format.{Format}
use Rattle.command_base.specs.declared.status.Status.{Status}
use Rattle.command_base.specs.declared.status.Status.TheVariants.{Complete, TooLarge, NoMemory, ShelfFailed}
use Rattle.command_front.specs.Words.{FrontAsked}

-- it reads IN, begins and appends to LIST, and says something
abbrev pub front_calls : FrontAsked → List Call
front_calls a = reading a.input ∷ beginning a.list ∷ appending a.list ∷ saying ∷ []

-- IN spells an instance of at most 20 variables, and the entries are its front.
pub record IsFrontOf (files : Option Files) (a : FrontAsked) (entries : List Entry) : Type 0 where
  pub instance : InstanceValue
  pub text : HasText files a.input (IsTextOf a.format instance)
  pub few : instance.vars ≤ 20
  pub front : IsFront instance entries

-- LIST holds the list text of these entries, and no other file has changed
abbrev pub IsWritten : View → View → FrontAsked → List Entry → Type 0
IsWritten before after a entries = after.files ≡ with_file before.files a.list (list_text true entries)

-- Complete: LIST holds the list text of the front, whose size is 0 exactly where the instance has no model.
pub record IsComplete (before after : View) (a : FrontAsked) (size : ℕ) : Type 0 where
  pub entries : List Entry
  pub front : IsFrontOf before.files a entries
  pub counted : length entries ≡ size
  pub empty : (size ≡ 0) ↔ HasNoModel front.instance
  pub files : IsWritten before after a entries
  pub said : after.said ≡ followed before.said (said_of (Complete size))

-- a prefix of the list of the front
abbrev pub IsPrefixOfFront : Option Files → FrontAsked → List ℕ → Type 0
IsPrefixOfFront files a bytes = (entries : List Entry) × IsFrontOf files a entries × IsPrefixOf bytes (list_text true entries)

-- Saying was cut off: LIST holds the whole list, and a prefix of its line was said.
pub record IsPartlySaid (before after : View) (a : FrontAsked) : Type 0 where
  pub entries : List Entry
  pub front : IsFrontOf before.files a entries
  pub files : IsWritten before after a entries
  pub said : IsPartlyFollowed before.said after.said (said_of (Complete (length entries)))

-- NoMemory and ShelfFailed: LIST is as before, or a prefix of the list text of the front; something is said only where LIST
-- is whole.
abbrev pub IsCutShort : View → View → FrontAsked → Type 0
IsCutShort before after a =
    ((after.said ≡ before.said) × IsTouched before.files after.files a.list (IsPrefixOfFront before.files a)) ⊎ IsPartlySaid before after a

-- the instance of the text has more variables than are gone through
abbrev pub HasManyVariables : Format → List ℕ → Type 0
HasManyVariables format text = (i : InstanceValue) × IsTextOf format i text × (20 < i.vars)

-- The table. No two causes of a refusal hold of one text. Line 0 stands for the whole file.
abbrev pub FrontTable : FrontAsked → Status → View → View → Type 0
FrontTable a (Complete size) before after = IsComplete before after a size
FrontTable a (TooLarge zero Vars) before after = IsRefused before after a.input (HasManyVariables a.format)
FrontTable a NoMemory before after = IsCutShort before after a
FrontTable a ShelfFailed before after = IsCutShort before after a
FrontTable a status before after = InputTable a.format a.input status before after

-- it answers so, and warns of nothing
abbrev pub FrontRuns : FrontAsked → Status → World → World → Type 0
FrontRuns a = Runs (FrontTable a) (front_calls a)

-- ---- where it completes

-- IN spells an instance of at most 20 variables
pub record IsSmall (a : FrontAsked) (files : Option Files) : Type 0 where
  pub text : List ℕ
  pub there : content files a.input ≡ Some text
  pub instance : InstanceValue
  pub spelled : IsTextOf a.format instance text
  pub few : instance.vars ≤ 20

abbrev pub IsFrontEnd : Status → Type 0
IsFrontEnd (Complete size) = Unit {0}
IsFrontEnd status = ⊥

-- Where that is so and no own call failed, the front is written, unless memory is wanted.
abbrev pub FrontCompletes : FrontAsked → Status → World → World → Type 0
FrontCompletes a = Completes (IsSmall a) (λ files small. IsFrontEnd) (front_calls a)
