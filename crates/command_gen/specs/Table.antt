-- The answers of `gen NUMBER VARS OBJECTIVES OUT`, a record for each.
use Rattle.std.specs.Prelude.{◌≡◌, ◌⊎◌, List, [], ◌∷◌}
use Rattle.scut_base.specs.Files.{with_file, followed, IsPartlyFollowed, IsPrefixOf, IsTouched}
use Rattle.scut_base.specs.World.{World}
use Rattle.command_base.specs.Answering.{Call, Completes, Runs, appending, beginning, saying}
use Rattle.command_base.specs.InstanceFile.{IsTextOf}
use Rattle.command_base.specs.Messages.{said_of}
use Rattle.command_base.specs.Views.{View}
use Rattle.command_base.specs.declared.instance_file.Format.TheVariants.{Mcnf}
use Rattle.command_base.specs.declared.status.Status.{Status}
use Rattle.command_base.specs.declared.status.Status.TheVariants.{Done, NoMemory, ShelfFailed}
use Rattle.command_gen.specs.Origin.{instance_from, text_from}
use Rattle.command_gen.specs.Words.{GenAsked}

-- it begins and appends to OUT, and says something
abbrev pub gen_calls : GenAsked → List Call
gen_calls a = beginning a.out ∷ appending a.out ∷ saying ∷ []

-- OUT holds the text of the instance, and no other file has changed
abbrev pub IsWritten : View → View → GenAsked → Type 0
IsWritten before after a = after.files ≡ with_file before.files a.out (text_from a.origin)

-- Done: OUT holds a text that spells the instance that is made from the number.
pub record IsGenerated (before after : View) (a : GenAsked) : Type 0 where
  pub spelled : IsTextOf Mcnf (instance_from a.origin) (text_from a.origin)
  pub files : IsWritten before after a
  pub said : after.said ≡ followed before.said (said_of Done)

-- OUT is as before, or holds a prefix of that text; nothing was said
pub record IsUnsaid (before after : View) (a : GenAsked) : Type 0 where
  pub files : IsTouched before.files after.files a.out (λ bytes. IsPrefixOf bytes (text_from a.origin))
  pub said : after.said ≡ before.said

-- OUT holds the whole text, and a prefix of the line was said
pub record IsPartlySaid (before after : View) (a : GenAsked) : Type 0 where
  pub files : IsWritten before after a
  pub said : IsPartlyFollowed before.said after.said (said_of Done)

-- NoMemory and ShelfFailed: how far the command came.
abbrev pub IsCutShort : View → View → GenAsked → Type 0
IsCutShort before after a = IsUnsaid before after a ⊎ IsPartlySaid before after a

-- The table. No other status comes.
abbrev pub GenTable : GenAsked → Status → View → View → Type 0
GenTable a Done before after = IsGenerated before after a
GenTable a NoMemory before after = IsCutShort before after a
GenTable a ShelfFailed before after = IsCutShort before after a
GenTable a status before after = ⊥

-- it answers so, and warns of nothing
abbrev pub GenRuns : GenAsked → Status → World → World → Type 0
GenRuns a = Runs (GenTable a) (gen_calls a)

-- ---- where it completes

abbrev pub IsGenEnd : Status → Type 0
IsGenEnd Done = Unit {0}
IsGenEnd status = ⊥

-- Whatever the files are: where no own call failed, the text is written, unless memory is wanted.
abbrev pub GenCompletes : GenAsked → Status → World → World → Type 0
GenCompletes a = Completes (λ files. Unit {0}) (λ files needs. IsGenEnd) (gen_calls a)
