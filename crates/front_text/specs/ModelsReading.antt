-- What the private functions of the reader of models answer. No public contract stands on it.
use Rattle.std.specs.Prelude.{◌≡◌, ℕ, ◌+◌, ◌<◌, Bool, true, false, List, [], ◌∷◌, ◌++◌, length, codes, Option, Some, None, Result, Ok, Err}
use Rattle.std.specs.List.{flat_map}
use Rattle.scut_base.specs.Bytes.{newline}
use Rattle.front_set.specs.ListText.{model_line}
use Rattle.front_text.specs.Reading.{Takes, counted}
use Rattle.front_text.specs.Spelling.{IsCount}
use Rattle.front_text.specs.declared.entry.LineFault.{LineFault}
use Rattle.front_text.specs.declared.entry.LineFault.TheVariants.{Wrong, NoMemory as LineNoMemory}
use Rattle.front_text.specs.ModelsText.{entry_text}
use Rattle.front_text.specs.ModelsSpelling.{NoEntryAt, head_with}
use Rattle.front_text.specs.declared.models_head.Kind.{Kind}
use Rattle.front_text.specs.declared.reps.ModelsFault.{ModelsFault}
use Rattle.front_text.specs.declared.reps.ModelsFault.TheVariants.{Syntax, NoMemory}
use Rattle.front_text.specs.declared.reps.Reps.{Reps}

-- ---- lines that count

-- the first line that the old rest begins with
abbrev pub TakesHead : List ℕ → List ℕ → Option ℕ → Type 0
TakesHead old new None = (digits rest : List ℕ) → IsCount digits → old ≡ head_with digits ++ rest → ⊥
TakesHead old new (Some n) = (digits : List ℕ) × IsCount digits × (n ≡ counted digits) × (old ≡ head_with digits ++ new)

-- how an entry's first line begins
abbrev pub kind_text : Bool → List ℕ
kind_text true = codes "e ALL "
kind_text false = codes "e FIRST "

abbrev pub TakesKindText : List ℕ → List ℕ → Option Bool → Type 0
TakesKindText old new result = Takes kind_text (λ _. Unit {0}) old new result

-- an entry's first line with a count in digits
abbrev pub kind_with : Bool → List ℕ → List ℕ
kind_with all digits = kind_text all ++ (digits ++ newline ∷ [])

-- the entry's first line that the old rest begins with
abbrev pub TakesKind : List ℕ → List ℕ → Option Kind → Type 0
TakesKind old new None = (all : Bool) (digits rest : List ℕ) → IsCount digits → old ≡ kind_with all digits ++ rest → ⊥
TakesKind old new (Some k) = (digits : List ℕ) × IsCount digits × (k.count ≡ counted digits) × (old ≡ kind_with k.all digits ++ new)

-- ---- models and entries

-- the lines of so many models follow, or the old rest begins with no such lines
abbrev pub ReadsModels : ℕ → List ℕ → List ℕ → Result (List (List Bool)) LineFault → Type 0
ReadsModels count old new (Ok models) = (length models ≡ count) × (old ≡ flat_map model_line models ++ new)
ReadsModels count old new (Err Wrong) = (models : List (List Bool)) (rest : List ℕ) → length models ≡ count → old ≡ flat_map model_line models ++ rest → ⊥
ReadsModels count old new (Err LineNoMemory) = Unit {0}

-- these entries follow, and then the new rest
abbrev pub TakesEntries : List ℕ → List ℕ → List Reps → Type 0
TakesEntries old new entries = old ≡ flat_map entry_text entries ++ new

-- entry k of these is the first that isn't there
pub record StopsAt (old : List ℕ) (count k : ℕ) : Type 0 where
  pub entries : List Reps
  pub rest : List ℕ
  pub taken : TakesEntries old rest entries
  pub place : length entries + 1 ≡ k
  pub fewer : length entries < count
  pub wrong : NoEntryAt rest

-- why so many entries aren't read
abbrev pub IsEntryFault : List ℕ → ℕ → ModelsFault → Type 0
IsEntryFault old count NoMemory = Unit {0}
IsEntryFault old count (Syntax k) = StopsAt old count k
