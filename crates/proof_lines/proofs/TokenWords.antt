-- A token is told by its words and the letter that follows them.
use Rattle.std.proofs.Common.{◌≡◌, ◌≢◌, ℕ, ◌-◌, ◌^◌, ◌<◌, ◌≤◌, ◌==◌, if◌then◌else◌, Bool, true, false, List, [], ◌∷◌, ◌++◌, get_or, pos, negsuc, refl, ap, ◌∙◌, arith}
use Rattle.std.specs.Int.{IsInRange}
use Rattle.std.specs.Fmt.{decimal}
use Rattle.std.specs.Str.Parse.{digits_value}
use Rattle.std.proofs.lemmas.Bool.Decides.{nat_tests}
use Rattle.std.proofs.lemmas.Int.{ints}
use Rattle.cutting_planes.specs.declared.token.PolToken.{PolToken}
use Rattle.cutting_planes.specs.declared.token.PolToken.TheVariants.{Id, Axiom, Negated, Denied, Add, Mul, Div, Saturate, Weaken}
use Rattle.proof_laws.specs.WellFormed.{IsId, IsToken}
use Rattle.proof_lines.specs.declared.spelling.Spelling.{Spelling}
use Rattle.proof_lines.specs.declared.spelling.Spelling.TheVariants.{Plain, Relative}
use Rattle.proof_lines.specs.Ids.{IsSpelling, id_word, is_made}
use Rattle.proof_lines.specs.LineText.{literal_word, token_words}
use Rattle.proof_lines.specs.Reading.{first_letter, FollowsToken as Follows}
use Rattle.proof_lines.proofs.IdWords.{below_next, id_by}
use Rattle.proof_lines.proofs.Numbers.{decimal_first, decimal_value}

-- the first byte of the first word, or 0
abbrev pub first_byte : List (List ℕ) → ℕ
first_byte [] = 0
first_byte (w ∷ ws) = get_or w 0 0

abbrev pub tail : List ℕ → List ℕ
tail [] = []
tail (b ∷ bs) = bs

-- the literal of a word that begins with `~`
abbrev negated_of : List ℕ → PolToken
negated_of [] = Negated
negated_of (b ∷ []) = Negated
negated_of (b ∷ c ∷ bs) = Axiom (record { var = digits_value 10 bs; neg = true })

-- a token that begins with a digit, by the letter that follows
abbrev number_of : ℕ → ℕ → PolToken
number_of next n = if next == 42 then Mul (pos n) else if next == 100 then Div (pos n) else Id n

-- a token that begins with `x`
abbrev variable_of : ℕ → ℕ → PolToken
variable_of next var = if next == 119 then Weaken var else Axiom (record { var = var; neg = false })

-- the next id, where ids are counted back from it
abbrev next_of : Spelling → ℕ
next_of Plain = 0
next_of (Relative rows next) = next

-- the token of a word that begins with this byte
abbrev token_by : Spelling → ℕ → ℕ → List ℕ → PolToken
token_by spelling byte next word =
    if byte == 126 then negated_of word
    else if byte == 33 then Denied
    else if byte == 43 then Add
    else if byte == 115 then Saturate
    else if byte == 120 then variable_of next (digits_value 10 (tail word))
    else if byte == 45 then Id (next_of spelling - digits_value 10 (tail word))
    else number_of next (digits_value 10 word)

-- the token that these words begin with
abbrev pub token_of : Spelling → List (List ℕ) → PolToken
token_of spelling [] = Add
token_of spelling (w ∷ ws) = token_by spelling (get_or w 0 0) (first_letter ws) w

-- what follows any token: no word that belongs to one
pub record FollowsAny (r : List (List ℕ)) : Type 0 where
  pub no_product : first_letter r ≢ 42
  pub no_quotient : first_letter r ≢ 100
  pub no_weakening : first_letter r ≢ 119

pub follows_any : (t : PolToken) (r : List (List ℕ)) → FollowsAny r → Follows t r
follows_any (Id id) r follows = (follows.no_product, follows.no_quotient)
follows_any (Axiom l) r follows = follows.no_weakening
follows_any Negated r follows = tt
follows_any Denied r follows = tt
follows_any Add r follows = tt
follows_any (Mul k) r follows = tt
follows_any (Div k) r follows = tt
follows_any Saturate r follows = tt
follows_any (Weaken var) r follows = tt

by_digit : (spelling : Spelling) (byte next : ℕ) (word : List ℕ) → IsInRange 48 57 byte → token_by spelling byte next word ≡ number_of next (digits_value 10 word)
by_digit spelling byte next word digit = grind (arith, nat_tests)

plain_number : (next n : ℕ) → next ≢ 42 → next ≢ 100 → number_of next n ≡ Id n
plain_number next n no_product no_quotient = grind (arith, nat_tests)

plain_variable : (next var : ℕ) → next ≢ 119 → variable_of next var ≡ Axiom (record { var = var; neg = false })
plain_variable next var no_weakening = grind (arith, nat_tests)

number_token : (spelling : Spelling) (n next : ℕ) → n < 10 ^ 64 → token_by spelling (get_or (decimal n) 0 0) next (decimal n) ≡ number_of next n
number_token spelling n next short = by_digit spelling (get_or (decimal n) 0 0) next (decimal n) (decimal_first n short) ∙ ap (number_of next) (decimal_value n short)

-- an id that is counted back, or isn't
by_made : (rows next letter id : ℕ) (made : Bool) → next ≤ 2 ^ 63 → is_made rows next id ≡ made → IsId id → letter ≢ 42 → letter ≢ 100 → token_by (Relative rows next) (get_or (id_by next id made) 0 0) letter (id_by next id made) ≡ Id id
by_made rows next letter id true most made valid no_product no_quotient =
    let range = below_next rows next id made in
    let back : next - (next - id) ≡ id = omega arith in
    ap (λ n. Id (next - n)) (decimal_value (next - id) (omega arith)) ∙ ap Id back
by_made rows next letter id false most made valid no_product no_quotient =
    number_token (Relative rows next) id letter (omega arith) ∙ plain_number letter id no_product no_quotient

id_token : (spelling : Spelling) → IsSpelling spelling → (letter id : ℕ) → IsId id → letter ≢ 42 → letter ≢ 100 → token_by spelling (get_or (id_word spelling id) 0 0) letter (id_word spelling id) ≡ Id id
id_token Plain fine letter id valid no_product no_quotient = number_token Plain id letter (omega arith) ∙ plain_number letter id no_product no_quotient
id_token (Relative rows next) fine letter id valid no_product no_quotient = by_made rows next letter id (is_made rows next id) fine refl valid no_product no_quotient

module _ (spelling : Spelling) (fine : IsSpelling spelling) where
  literal_token : (var : ℕ) (neg : Bool) (r : List (List ℕ)) → var < 10 ^ 64 → first_letter r ≢ 119 → token_of spelling (literal_word (record { var = var; neg = neg }) ∷ r) ≡ Axiom (record { var = var; neg = neg })
  literal_token var true r short follows = ap (λ v. Axiom (record { var = v; neg = true })) (decimal_value var short)
  literal_token var false r short follows =
      plain_variable (first_letter r) (digits_value 10 (decimal var)) follows ∙ ap (λ v. Axiom (record { var = v; neg = false })) (decimal_value var short)

  -- the token is told
  pub token_of-words : (t : PolToken) (r : List (List ℕ)) → IsToken t → Follows t r → token_of spelling (token_words spelling t ++ r) ≡ t
  token_of-words (Id id) r valid follows = id_token spelling fine (first_letter r) id valid follows.0 follows.1
  token_of-words (Axiom l) r valid follows = literal_token l.var l.neg r (omega arith) follows
  token_of-words Negated r valid follows = refl
  token_of-words Denied r valid follows = refl
  token_of-words Add r valid follows = refl
  token_of-words (Mul (pos n)) r valid follows = number_token spelling n 42 (omega (arith, ints))
  token_of-words (Mul (negsuc n)) r valid follows = absurd (omega (arith, ints))
  token_of-words (Div (pos n)) r valid follows = number_token spelling n 100 (omega (arith, ints))
  token_of-words (Div (negsuc n)) r valid follows = absurd (omega (arith, ints))
  token_of-words Saturate r valid follows = refl
  token_of-words (Weaken var) r valid follows = ap Weaken (decimal_value var (omega arith))
