-- What the functions of the reader answer.
use Rattle.std.specs.Prelude.{◌≡◌, ◌≢◌, ℕ, ◌+◌, ◌<◌, ◌≤◌, ◌^◌, Bool, true, false, ◌==◌, List, [], ◌∷◌, ◌++◌, length, take, drop, nat_lt, if◌then◌else◌, slice_index, Option, None, Some, Result, Ok, Err, codes}
use Rattle.std.specs.List.{slice_split, flat_map}
use Rattle.std.specs.Fmt.{decimal}
use Rattle.std.specs.Str.Parse.{AllDigits, digits_value}
use Rattle.scut_base.specs.Bytes.{space, zero_digit}
use Rattle.scut_base.specs.Literal.{Literal}
use Rattle.pb_lin.specs.Constraint.{total}
use Rattle.cutting_planes.specs.declared.token.PolToken.{PolToken}
use Rattle.cutting_planes.specs.declared.token.PolToken.TheVariants.{Id, Axiom, Negated, Denied, Add, Saturate}
use Rattle.proof_laws.specs.WellFormed.{IsId, IsVariable, IsConstraint, IsToken}
use Rattle.proof_lines.specs.Ids.{id_word}
use Rattle.proof_lines.specs.LineText.{literal_word, token_words}
use Rattle.proof_lines.specs.declared.reader.LineFault.{LineFault}
use Rattle.proof_lines.specs.declared.reader.LineFault.TheVariants.{Syntax, NoMemory}
use Rattle.proof_lines.specs.declared.spelling.Spelling.{Spelling}

-- ---- words

abbrev pub is_space : ℕ → Bool
is_space b = b == space

-- the words of a text
abbrev pub words_of : List ℕ → List (List ℕ)
words_of text = slice_split is_space text

-- the words of a text that may be missing
abbrev pub words_left : Option (List ℕ) → List (List ℕ)
words_left None = []
words_left (Some text) = words_of text

-- the words of a text from a place on, of which none is left past its end
abbrev pub words_from : List ℕ → ℕ → List (List ℕ)
words_from text at = if nat_lt (length text) at then [] else words_of (drop at text)

-- the first of the words is this one
abbrev pub BeginsWith : List ℕ → List (List ℕ) → Type 0
BeginsWith word [] = ⊥
BeginsWith word (first ∷ words) = first ≡ word

-- a part of a line ends here: no word is left, or the next is `:`
abbrev pub EndsPart : List (List ℕ) → Type 0
EndsPart [] = Unit {0}
EndsPart (first ∷ words) = first ≡ codes ":"

-- whether the first of the old words is this one; if so it is taken
abbrev pub Skips : List ℕ → List (List ℕ) → List (List ℕ) → Bool → Type 0
Skips word old new true = old ≡ word ∷ new
Skips word old new false = (new ≡ old) × (BeginsWith word old → ⊥)

-- ---- the values of single words

-- the value of a word, or none where it is the text of no value
abbrev pub IsValueOf : {X : Type 0} → (X → List ℕ) → (X → Type 0) → List ℕ → Option X → Type 0
IsValueOf text IsValid word None = (x : _) → IsValid x → word ≡ text x → ⊥
IsValueOf text IsValid word (Some x) = IsValid x × (word ≡ text x)

abbrev pub IsNumber : ℕ → Type 0
IsNumber n = n < 2 ^ 127

-- some bytes, of which the first is no zero but in `0`
abbrev pub IsPlain : List ℕ → Type 0
IsPlain word = (0 < length word) × (slice_index word 0 ≡ zero_digit → length word ≡ 1)

-- the number that decimal digits spell, or none where it isn't below the limit or these are no digits
abbrev pub ReadsDigits : ℕ → List ℕ → Option ℕ → Type 0
ReadsDigits limit word None = AllDigits 10 word → digits_value 10 word < limit → ⊥
ReadsDigits limit word (Some n) = AllDigits 10 word × (n ≡ digits_value 10 word) × (n < limit)

-- the first `len` bytes are digits, at most 18, and spell the number
pub record IsLeading (text : List ℕ) (number len : ℕ) : Type 0 where
  pub within : len ≤ length text
  pub digits : AllDigits 10 (take len text)
  pub value : number ≡ digits_value 10 (take len text)
  pub small : number < 10 ^ 18

-- ---- the values of some words

-- the value whose words the old ones begin with, and the new ones after it; none where they begin with those of no value
abbrev pub Takes : {X : Type 0} → (X → List (List ℕ)) → (X → Type 0) → List (List ℕ) → List (List ℕ) → Option X → Type 0
Takes words IsValid old new None = (x : _) (rest : List (List ℕ)) → IsValid x → old ≡ words x ++ rest → ⊥
Takes words IsValid old new (Some x) = IsValid x × (old ≡ words x ++ new)

-- the same where memory may be refused
abbrev pub Reads : {X : Type 0} → (X → List (List ℕ)) → (X → Type 0) → List (List ℕ) → List (List ℕ) → Result X LineFault → Type 0
Reads words IsValid old new (Ok x) = IsValid x × (old ≡ words x ++ new)
Reads words IsValid old new (Err Syntax) = (x : _) (rest : List (List ℕ)) → IsValid x → old ≡ words x ++ rest → ⊥
Reads words IsValid old new (Err NoMemory) = Unit {0}

-- the same of a part of a line, up to its end
abbrev pub ReadsPart : {X : Type 0} → (X → List (List ℕ)) → (X → Type 0) → List (List ℕ) → List (List ℕ) → Result X LineFault → Type 0
ReadsPart words IsValid old new (Ok x) = IsValid x × (old ≡ words x ++ new) × EndsPart new
ReadsPart words IsValid old new (Err Syntax) = (x : _) (rest : List (List ℕ)) → IsValid x → EndsPart rest → old ≡ words x ++ rest → ⊥
ReadsPart words IsValid old new (Err NoMemory) = Unit {0}

-- the same of all words that are left
abbrev pub ReadsAll : {X : Type 0} → (X → List (List ℕ)) → (X → Type 0) → List (List ℕ) → Result X LineFault → Type 0
ReadsAll words IsValid old (Ok x) = IsValid x × (old ≡ words x)
ReadsAll words IsValid old (Err Syntax) = (x : _) → IsValid x → old ≡ words x → ⊥
ReadsAll words IsValid old (Err NoMemory) = Unit {0}

-- ---- constraints

-- `2 x1`
abbrev pub term_words : Literal × ℕ → List (List ℕ)
term_words t = decimal t.1 ∷ literal_word t.0 ∷ []

-- a term that may be none of a constraint
abbrev pub IsTerm : Literal × ℕ → Type 0
IsTerm t = IsVariable t.0.var × IsNumber t.1

-- the terms of a constraint
abbrev pub AreTerms : List (Literal × ℕ) → Type 0
AreTerms terms = IsConstraint (record { terms = terms; degree = 0 })

-- a term that may follow others, of which the last has this variable, and whose coefficients have this sum
abbrev pub MayFollow : ℕ → ℕ → Literal × ℕ → Type 0
MayFollow last sum t = (0 < t.1) × (last < t.0.var) × (sum + t.1 ≤ 2 ^ 100)

-- the variable of the last term, and 0 where there is none
abbrev pub last_variable : List (Literal × ℕ) → ℕ
last_variable [] = 0
last_variable (t ∷ []) = t.0.var
last_variable (t ∷ u ∷ terms) = last_variable (u ∷ terms)

-- terms up to and with `>=`, and the sum of their coefficients
abbrev pub ReadsTerms : List (List ℕ) → List (List ℕ) → Result (List (Literal × ℕ) × ℕ) LineFault → Type 0
ReadsTerms old new (Ok p) = AreTerms p.0 × (p.1 ≡ total p.0) × (old ≡ flat_map term_words p.0 ++ codes ">=" ∷ new)
ReadsTerms old new (Err Syntax) = (terms : List (Literal × ℕ)) (rest : List (List ℕ)) → AreTerms terms → old ≡ flat_map term_words terms ++ codes ">=" ∷ rest → ⊥
ReadsTerms old new (Err NoMemory) = Unit {0}

-- ---- tokens

-- the letter of a word that is one, or 0
abbrev pub letter_of : List ℕ → ℕ
letter_of [] = 0
letter_of (b ∷ []) = b
letter_of (b ∷ c ∷ bs) = 0

-- the letter that the first word is, or 0
abbrev pub first_letter : List (List ℕ) → ℕ
first_letter [] = 0
first_letter (w ∷ ws) = letter_of w

-- what follows a token: no word that would make it another
abbrev pub FollowsToken : PolToken → List (List ℕ) → Type 0
FollowsToken (Id id) rest = (first_letter rest ≢ 42) × (first_letter rest ≢ 100)
FollowsToken (Axiom l) rest = first_letter rest ≢ 119
FollowsToken t rest = Unit {0}

-- the token that the old words begin with, or none
abbrev pub TakesToken : Spelling → List (List ℕ) → List (List ℕ) → Option PolToken → Type 0
TakesToken spelling old new None = (t : PolToken) (rest : List (List ℕ)) → IsToken t → FollowsToken t rest → old ≡ token_words spelling t ++ rest → ⊥
TakesToken spelling old new (Some t) = IsToken t × (old ≡ token_words spelling t ++ new) × FollowsToken t new

-- the same of a token that is an id
abbrev pub TakesId : Spelling → List (List ℕ) → List (List ℕ) → Option PolToken → Type 0
TakesId spelling old new None = (id : ℕ) (rest : List (List ℕ)) → IsId id → FollowsToken (Id id) rest → old ≡ id_word spelling id ∷ rest → ⊥
TakesId spelling old new (Some t) = IsToken t × (old ≡ token_words spelling t ++ new) × FollowsToken t new

-- tokens that are one letter
abbrev pub IsSymbol : PolToken → Type 0
IsSymbol Negated = Unit {0}
IsSymbol Denied = Unit {0}
IsSymbol Add = Unit {0}
IsSymbol Saturate = Unit {0}
IsSymbol t = ⊥

abbrev pub symbol_word : PolToken → List ℕ
symbol_word Negated = codes "~"
symbol_word Denied = codes "!"
symbol_word Add = codes "+"
symbol_word Saturate = codes "s"
symbol_word t = []
