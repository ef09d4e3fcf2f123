-- Which bytes are the text of which list, and the entry at which other bytes go wrong.
use Rattle.std.specs.Prelude.{◌≡◌, ◌≢◌, ℕ, zero, suc, ◌<◌, ◌^◌, ◌⊎◌, Bool, true, false, List, [], ◌∷◌, ◌++◌, All, length, slice_index, codes, ℤ, unsigned_abs}
use Rattle.std.specs.List.{flat_map}
use Rattle.scut_base.specs.Bytes.{newline, zero_digit}
use Rattle.scut_base.specs.Number.{IsNatural, natural_value}
use Rattle.front_set.specs.declared.entry.Entry.{Entry}
use Rattle.front_set.specs.ListText.{list_text, entry_text}
use Rattle.front_text.specs.declared.list.ListFault.{ListFault}
use Rattle.front_text.specs.declared.list.ListFault.TheVariants.{Syntax, NoMemory}

-- from -2^63 + 1 to 2^63 - 1
abbrev pub IsCost : ℤ → Type 0
IsCost c = unsigned_abs c < 2 ^ 63

abbrev pub HasCosts : Entry → Type 0
HasCosts e = All IsCost e.costs

-- the text is that of a list of these entries
pub record Spells (text : List ℕ) (complete : Bool) (entries : List Entry) : Type 0 where
  pub is : text ≡ list_text complete entries
  pub costs : All HasCosts entries

-- decimal digits with no leading zero, of any value
pub record IsCount (digits : List ℕ) : Type 0 where
  pub number : IsNatural digits
  pub plain : slice_index digits 0 ≡ zero_digit → length digits ≡ 1

-- how a head line begins
abbrev pub kind_text : Bool → List ℕ
kind_text true = codes "s COMPLETE "
kind_text false = codes "s INCOMPLETE "

-- the head line with a count in digits
abbrev pub head_with : Bool → List ℕ → List ℕ
head_with complete digits = kind_text complete ++ (digits ++ newline ∷ [])

-- The text begins with a head line of this count and with the text of these entries, and the rest follows.
pub record BeginsWith (text : List ℕ) (count : ℕ) (entries : List Entry) (rest : List ℕ) : Type 0 where
  pub complete : Bool
  pub digits : List ℕ
  pub head : IsCount digits
  pub value : natural_value digits ≡ count
  pub costs : All HasCosts entries
  pub is : text ≡ head_with complete digits ++ (flat_map entry_text entries ++ rest)

-- no entry follows: its `o` line or its `v` line is wrong or missing
abbrev pub NoEntryAt : List ℕ → Type 0
NoEntryAt rest = (e : Entry) (after : List ℕ) → HasCosts e → rest ≡ entry_text e ++ after → ⊥

-- The text goes wrong after k entries: fewer than the head line counts, and no entry follows; or as many, and more text follows.
pub record GoesWrongAfter (text : List ℕ) (k : ℕ) : Type 0 where
  pub count : ℕ
  pub entries : List Entry
  pub rest : List ℕ
  pub begins : BeginsWith text count entries rest
  pub right : length entries ≡ k
  pub wrong : ((k < count) × NoEntryAt rest) ⊎ ((k ≡ count) × (rest ≢ []))

-- the entry at which a text goes wrong, counted from 1: 0 where it begins with no head line
abbrev pub IsSyntaxAt : List ℕ → ℕ → Type 0
IsSyntaxAt text zero = (count : ℕ) (rest : List ℕ) → BeginsWith text count [] rest → ⊥
IsSyntaxAt text (suc k) = GoesWrongAfter text k

-- why a text isn't read
abbrev pub IsFaultOf : List ℕ → ListFault → Type 0
IsFaultOf text (Syntax entry) = IsSyntaxAt text entry
IsFaultOf text NoMemory = Unit {0}
