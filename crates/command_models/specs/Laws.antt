-- Laws of the command `models`, each as one statement.
use Rattle.std.specs.Prelude.{◌≡◌, ℕ, ◌<◌, ◌^◌, List, length, Option, Some}
use Rattle.scut_base.specs.Files.{Files, content, IsTold}
use Rattle.command_base.specs.Views.{View}
use Rattle.command_check_models.specs.Table.{AreAcceptable}
use Rattle.command_check_models.specs.Words.{IsRequest, ModelsAsked, log_name, models_name}
use Rattle.command_models.specs.Table.{AreListed}

-- neither the text of all models nor a log is too large to be judged
pub record AreNotLarge (files : Option Files) (a : ModelsAsked) : Type 0 where
  pub text : (text : List ℕ) → content files (models_name a.base) ≡ Some text → length text < 2 ^ 32
  pub logs : (n : ℕ) (log : List ℕ) → content files (log_name a.base n) ≡ Some log → length log < 2 ^ 62

-- what is left after Models is accepted by `check-models`, where no file is too large
abbrev pub ListedAreAcceptable : Type 0
ListedAreAcceptable = (a : ModelsAsked) (before after : View) (count : ℕ) → IsRequest a → AreListed before after a count → IsTold after.files → AreNotLarge after.files a
    → AreAcceptable a after.files
