-- What a reader of a text answers that goes from its first byte to its last; no contract of a whole list stands on it.
use Rattle.std.specs.Prelude.{◌≡◌, ℕ, ◌-◌, ◌+◌, ◌^◌, ◌<◌, min, Bool, true, false, ◌==◌, ◌||◌, List, [], ◌∷◌, ◌++◌, All, length, ℤ, Option, None, Some, Result, Ok, Err}
use Rattle.std.specs.List.{flat_map}
use Rattle.std.specs.Fmt.{signed_decimal}
use Rattle.scut_base.specs.Bytes.{newline, space}
use Rattle.scut_base.specs.Number.{natural_value}
use Rattle.front_set.specs.declared.entry.Entry.{Entry}
use Rattle.front_set.specs.ListText.{entry_text}
use Rattle.front_text.specs.declared.list.ListFault.{ListFault}
use Rattle.front_text.specs.declared.list.ListFault.TheVariants.{Syntax, NoMemory as ListNoMemory}
use Rattle.front_text.specs.declared.entry.LineFault.{LineFault}
use Rattle.front_text.specs.declared.entry.LineFault.TheVariants.{Wrong, NoMemory}
use Rattle.front_text.specs.declared.head.Head.{Head}
use Rattle.front_text.specs.Spelling.{IsCost, HasCosts, IsCount, NoEntryAt, head_with}

-- ---- bytes and words

-- a space or a line feed
abbrev pub is_separator : ℕ → Bool
is_separator b = b == space || b == newline

abbrev pub HasNoSeparator : List ℕ → Type 0
HasNoSeparator [] = Unit {0}
HasNoSeparator (b ∷ bs) = (is_separator b ≡ false) × HasNoSeparator bs

-- nothing follows, or a separator does
abbrev pub EndsWord : List ℕ → Type 0
EndsWord [] = Unit {0}
EndsWord (b ∷ bs) = is_separator b ≡ true

-- the word that the old rest begins with, and the new rest after it
pub record IsWord (word old new : List ℕ) : Type 0 where
  pub is : old ≡ word ++ new
  pub whole : HasNoSeparator word
  pub ends : EndsWord new

-- whether the old rest begins with this text; if so it is taken
abbrev pub Skips : List ℕ → List ℕ → List ℕ → Bool → Type 0
Skips text old new true = old ≡ text ++ new
Skips text old new false = (new ≡ old) × ((rest : List ℕ) → old ≡ text ++ rest → ⊥)

-- ---- values and their texts

-- the value of a word, or none where it is the text of no value
abbrev pub IsValueOf : {X : Type 0} → (X → List ℕ) → (X → Type 0) → List ℕ → Option X → Type 0
IsValueOf text IsValid word None = (x : _) → IsValid x → word ≡ text x → ⊥
IsValueOf text IsValid word (Some x) = IsValid x × (word ≡ text x)

-- the old rest begins with the text of no such value
abbrev pub BeginsWithNone : {X : Type 0} → (X → List ℕ) → (X → Type 0) → List ℕ → Type 0
BeginsWithNone text IsValid old = (x : _) (rest : List ℕ) → IsValid x → old ≡ text x ++ rest → ⊥

-- a value whose text the old rest begins with, or none where it begins with no such text
abbrev pub Takes : {X : Type 0} → (X → List ℕ) → (X → Type 0) → List ℕ → List ℕ → Option X → Type 0
Takes text IsValid old new None = BeginsWithNone text IsValid old
Takes text IsValid old new (Some x) = IsValid x × (old ≡ text x ++ new)

-- the same where memory may be refused
abbrev pub Reads : {X : Type 0} → (X → List ℕ) → (X → Type 0) → List ℕ → List ℕ → Result X LineFault → Type 0
Reads text IsValid old new (Ok x) = IsValid x × (old ≡ text x ++ new)
Reads text IsValid old new (Err Wrong) = BeginsWithNone text IsValid old
Reads text IsValid old new (Err NoMemory) = Unit {0}

-- a cost is a word of its own
abbrev pub TakesCost : List ℕ → List ℕ → Option ℤ → Type 0
TakesCost old new None = (c : ℤ) (rest : List ℕ) → IsCost c → EndsWord rest → old ≡ signed_decimal c ++ rest → ⊥
TakesCost old new (Some c) = IsCost c × (old ≡ signed_decimal c ++ new) × EndsWord new

-- ---- the head line and the entries

-- no text has more entries
abbrev pub counted : List ℕ → ℕ
counted digits = min (natural_value digits) (2 ^ 64 - 1)

-- the count that digits spell
abbrev pub IsCountOf : List ℕ → Option ℕ → Type 0
IsCountOf digits None = IsCount digits → ⊥
IsCountOf digits (Some n) = IsCount digits × (n ≡ counted digits)

-- the head line that the old rest begins with
abbrev pub TakesHead : List ℕ → List ℕ → Option Head → Type 0
TakesHead old new None = (complete : Bool) (digits rest : List ℕ) → IsCount digits → old ≡ head_with complete digits ++ rest → ⊥
TakesHead old new (Some h) = (digits : List ℕ) × IsCount digits × (h.count ≡ counted digits) × (old ≡ head_with h.complete digits ++ new)

-- these entries follow, and then the new rest
pub record TakesEntries (old new : List ℕ) (entries : List Entry) : Type 0 where
  pub costs : All HasCosts entries
  pub is : old ≡ flat_map entry_text entries ++ new

-- entry k of these is the first that isn't there
pub record StopsAt (old : List ℕ) (count k : ℕ) : Type 0 where
  pub entries : List Entry
  pub rest : List ℕ
  pub taken : TakesEntries old rest entries
  pub place : length entries + 1 ≡ k
  pub fewer : length entries < count
  pub wrong : NoEntryAt rest

-- why so many entries aren't read
abbrev pub IsEntryFault : List ℕ → ℕ → ListFault → Type 0
IsEntryFault old count ListNoMemory = Unit {0}
IsEntryFault old count (Syntax k) = StopsAt old count k

-- the fault of a line of entry k
abbrev pub fault_at : ℕ → LineFault → ListFault
fault_at k Wrong = Syntax k
fault_at k NoMemory = ListNoMemory
