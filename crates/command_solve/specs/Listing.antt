-- How a list is written and its size said.
use Rattle.std.specs.Prelude.{◌≡◌, ◌⊎◌, ℕ, Bool, true, false, List, [], ◌∷◌}
use Rattle.scut_base.specs.Files.{followed, with_file, IsPartlyFollowed, IsPrefixOf, IsTouched}
use Rattle.certified_front.specs.declared.ending.Ending.{Ending}
use Rattle.certified_front.specs.declared.ending.Ending.TheVariants.{Complete as EndingComplete, Incomplete as EndingIncomplete}
use Rattle.command_base.specs.Answering.{Call, appending, beginning, saying}
use Rattle.command_base.specs.Messages.{said_of}
use Rattle.command_base.specs.Views.{View}
use Rattle.command_base.specs.declared.status.Status.{Status}
use Rattle.command_base.specs.declared.status.Status.TheVariants.{Complete, Incomplete, NoMemory, ShelfFailed}

abbrev pub list_calls : List ℕ → List Call
list_calls list = beginning list ∷ appending list ∷ saying ∷ []

abbrev pub is_complete : Ending → Bool
is_complete EndingComplete = true
is_complete (EndingIncomplete learned) = false

-- the status of a search that has ended so, with a list of this size
abbrev pub status_of : ℕ → Ending → Status
status_of size EndingComplete = Complete size
status_of size (EndingIncomplete learned) = Incomplete size learned

-- LIST holds this text, no other file has changed, and the line of the status is said
pub record IsListed (list text : List ℕ) (status : Status) (before after : View) : Type 0 where
  pub files : after.files ≡ with_file before.files list text
  pub said : after.said ≡ followed before.said (said_of status)

-- LIST is as before, or holds a prefix of this text, and nothing is said
pub record IsListUnsaid (list text : List ℕ) (before after : View) : Type 0 where
  pub files : IsTouched before.files after.files list (λ bytes. IsPrefixOf bytes text)
  pub said : after.said ≡ before.said

-- LIST holds this text, and a prefix of the line is said
pub record IsListPartlySaid (list text : List ℕ) (size : ℕ) (ending : Ending) (before after : View) : Type 0 where
  pub files : after.files ≡ with_file before.files list text
  pub said : IsPartlyFollowed before.said after.said (said_of (status_of size ending))

-- What writing a list answers: the status of the search that found it, or how far it came.
abbrev pub ListTable : (list text : List ℕ) → ℕ → Ending → Status → View → View → Type 0
ListTable list text size ending NoMemory before after = IsListUnsaid list text before after ⊎ IsListPartlySaid list text size ending before after
ListTable list text size ending ShelfFailed before after = IsListUnsaid list text before after ⊎ IsListPartlySaid list text size ending before after
ListTable list text size ending status before after = (status ≡ status_of size ending) × IsListed list text status before after
