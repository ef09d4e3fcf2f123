-- The entry at which bytes that are no text of models go wrong.
use Rattle.std.specs.Prelude.{◌≡◌, ◌≢◌, ℕ, zero, suc, ◌<◌, ◌⊎◌, List, [], ◌∷◌, ◌++◌, length, codes}
use Rattle.std.specs.List.{flat_map}
use Rattle.scut_base.specs.Bytes.{newline}
use Rattle.scut_base.specs.Number.{natural_value}
use Rattle.front_text.specs.Spelling.{IsCount}
use Rattle.front_text.specs.ModelsText.{entry_text}
use Rattle.front_text.specs.declared.reps.ModelsFault.{ModelsFault}
use Rattle.front_text.specs.declared.reps.ModelsFault.TheVariants.{Syntax, NoMemory}
use Rattle.front_text.specs.declared.reps.Reps.{Reps}

-- the first line with a count in digits
abbrev pub head_with : List ℕ → List ℕ
head_with digits = codes "s MODELS " ++ (digits ++ newline ∷ [])

-- The text begins with a first line of this count and with the text of these entries, and the rest follows.
pub record BeginsWith (text : List ℕ) (count : ℕ) (entries : List Reps) (rest : List ℕ) : Type 0 where
  pub digits : List ℕ
  pub head : IsCount digits
  pub value : natural_value digits ≡ count
  pub is : text ≡ head_with digits ++ (flat_map entry_text entries ++ rest)

-- no entry follows: its first line, or the line of one of the models that it counts, is wrong or missing
abbrev pub NoEntryAt : List ℕ → Type 0
NoEntryAt rest = (r : Reps) (after : List ℕ) → rest ≡ entry_text r ++ after → ⊥

-- The text goes wrong after k entries: fewer than the first line counts, and no entry follows; or as many, and more text follows.
pub record GoesWrongAfter (text : List ℕ) (k : ℕ) : Type 0 where
  pub count : ℕ
  pub entries : List Reps
  pub rest : List ℕ
  pub begins : BeginsWith text count entries rest
  pub right : length entries ≡ k
  pub wrong : ((k < count) × NoEntryAt rest) ⊎ ((k ≡ count) × (rest ≢ []))

-- the entry at which a text goes wrong, counted from 1: 0 where it begins with no first line
abbrev pub IsSyntaxAt : List ℕ → ℕ → Type 0
IsSyntaxAt text zero = (count : ℕ) (rest : List ℕ) → BeginsWith text count [] rest → ⊥
IsSyntaxAt text (suc k) = GoesWrongAfter text k

-- why a text isn't read
abbrev pub IsFaultOf : List ℕ → ModelsFault → Type 0
IsFaultOf text (Syntax entry) = IsSyntaxAt text entry
IsFaultOf text NoMemory = Unit {0}
