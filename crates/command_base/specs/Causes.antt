-- What an answer says of the files and of what was said, whatever the command is.
use Rattle.std.specs.Prelude.{◌≡◌, ℕ, List, Option, Some}
use Rattle.scut_base.specs.Files.{Files, content, IsTold}
use Rattle.command_base.specs.Views.{View}

-- where the files are told, this one is there, and its bytes have P
abbrev pub HasText : Option Files → List ℕ → (List ℕ → Type 0) → Type 0
HasText files name P = IsTold files → (text : List ℕ) × (content files name ≡ Some text) × P text

-- a refusal: this is its cause, no file has changed, and nothing was said
pub record HasCauseIn (before after : View) (Cause : Type 0) : Type 0 where
  pub cause : Cause
  pub same : after ≡ before

-- the same where a file's text has the cause
abbrev pub IsRefused : View → View → List ℕ → (List ℕ → Type 0) → Type 0
IsRefused before after name Cause = HasCauseIn before after (HasText before.files name Cause)
