-- What clap makes of words.
use Rattle.std.proofs.Common.{◌≡◌, Bool, true, false, ◌&&◌, List, [], ◌∷◌, refl, ap, ◌∙◌, inl, inr}
use Rattle.std.specs.Prelude.{Some, None}
use Rattle.clap.specs.Kinds.{HasKind, IsAmong}
use Rattle.clap.specs.Words.{App, Kinds, Row, Text, fault_of, kind_of, matches_of}
use Rattle.clap.specs.declared.error.Error.{Error}
use Rattle.clap.specs.declared.error.kind.ErrorKind.{ErrorKind}
use Rattle.clap.specs.declared.error.kind.ErrorKind.TheVariants.{OutOfMemory}
use Rattle.command_base.specs.CommandWords.{rows_by, unless_refused}

pub first_true : (a b : Bool) → (a && b) ≡ true → a ≡ true
first_true true b e = refl
first_true false b e = e

-- the words are taken
taken : (kinds : Kinds) (rows : List Row) → kinds ≡ [] → Some rows ≡ unless_refused kinds rows
taken [] rows none = refl
taken (kind ∷ kinds) rows none = absurd cc

pub words_taken : (app : App) (words : List Text) (rows : List Row) → fault_of app words ≡ [] → rows ≡ matches_of app words → Some rows ≡ rows_by app words
words_taken app words rows none same = ap Some same ∙ taken (fault_of app words) (matches_of app words) none

-- the words are refused
refused : (kinds : Kinds) (rows : List Row) → (kinds ≡ [] → ⊥) → None ≡ unless_refused kinds rows
refused [] rows some = absurd (some refl)
refused (kind ∷ kinds) rows some = refl

none_among : (k : ErrorKind) (kinds : Kinds) → IsAmong k kinds → kinds ≡ [] → ⊥
none_among k [] among none = among
none_among k (x ∷ xs) among none = cc

pub words_refused : (app : App) (words : List Text) (e : Error) → HasKind (fault_of app words) e → (kind_of e ≡ OutOfMemory → ⊥) → None ≡ rows_by app words
words_refused app words e has other = refused (fault_of app words) (matches_of app words) (λ none. elim has [
  | inl memory ↦ other memory
  | inr among ↦ none_among (kind_of e) (fault_of app words) among none
])
