-- The words that items begin with, and that none of them is one that ends a part.
use Rattle.std.proofs.Common.{◌≡◌, ◌≢◌, ℕ, ◌^◌, ◌<◌, ◌==◌, ◌||◌, Bool, true, false, List, [], ◌∷◌, ◌++◌, get_or, pos, negsuc, refl, sym, ap, subst, ◌∙◌, arith, codes}
use Rattle.std.specs.Int.{IsInRange}
use Rattle.std.specs.Fmt.{decimal}
use Rattle.std.proofs.lemmas.Bool.Decides.{nat_tests}
use Rattle.std.proofs.lemmas.Int.{ints}
use Rattle.scut_base.specs.Literal.{Literal}
use Rattle.cutting_planes.specs.declared.token.PolToken.{PolToken}
use Rattle.cutting_planes.specs.declared.token.PolToken.TheVariants.{Id, Axiom, Negated, Denied, Add, Mul, Div, Saturate, Weaken}
use Rattle.proof_laws.specs.WellFormed.{IsId, IsToken}
use Rattle.proof_lines.specs.LineText.{literal_word, token_words, variable_word}
use Rattle.proof_lines.specs.Reading.{EndsPart, first_letter}
use Rattle.proof_lines.proofs.IdWords.{id_first}
use Rattle.proof_lines.proofs.Numbers.{decimal_first}
use Rattle.proof_lines.proofs.TokenWords.{first_byte, FollowsAny}
use Rattle.proof_lines.specs.declared.spelling.Spelling.{Spelling}
use Rattle.proof_lines.specs.Ids.{IsSpelling, id_word}

-- whether a word that begins with this byte may end a part or belong to a token before it
abbrev pub is_mark : ℕ → Bool
is_mark byte = byte == 42 || (byte == 100 || (byte == 119 || (byte == 58 || byte == 62)))

-- the words begin with one that is no mark
pub record BeginsPlain (words : List (List ℕ)) : Type 0 where
  pub word : List ℕ
  pub rest : List (List ℕ)
  pub is : words ≡ word ∷ rest
  pub plain : is_mark (get_or word 0 0) ≡ false

-- ---- bytes that are no marks

no_mark : (byte other : ℕ) → is_mark byte ≡ false → is_mark other ≡ true → byte ≡ other → ⊥
no_mark byte other plain mark same = let both : is_mark byte ≡ is_mark other = ap is_mark same in cc

digit_plain : (byte : ℕ) → IsInRange 48 57 byte → is_mark byte ≡ false
digit_plain byte digit = grind (arith, nat_tests)

-- a digit, or `-`
low_plain : (byte : ℕ) → IsInRange 45 57 byte → is_mark byte ≡ false
low_plain byte low = grind (arith, nat_tests)

number_plain : (n : ℕ) → n < 10 ^ 64 → is_mark (get_or (decimal n) 0 0) ≡ false
number_plain n small = digit_plain (get_or (decimal n) 0 0) (decimal_first n small)

signed_plain : (var : ℕ) (neg : Bool) → is_mark (get_or (literal_word (record { var = var; neg = neg })) 0 0) ≡ false
signed_plain var true = refl
signed_plain var false = refl

literal_plain : (l : Literal) → is_mark (get_or (literal_word l) 0 0) ≡ false
literal_plain l = signed_plain l.var l.neg

begins : (word : List ℕ) (rest : List (List ℕ)) → is_mark (get_or word 0 0) ≡ false → BeginsPlain (word ∷ rest)
begins word rest plain = record { word = word; rest = rest; is = refl; plain = plain }

module _ (spelling : Spelling) (fine : IsSpelling spelling) where
  id_plain : (id : ℕ) → IsId id → is_mark (get_or (id_word spelling id) 0 0) ≡ false
  id_plain id valid = low_plain (get_or (id_word spelling id) 0 0) (id_first spelling id valid)

  pub token_begins : (t : PolToken) (r : List (List ℕ)) → IsToken t → BeginsPlain (token_words spelling t ++ r)
  token_begins (Id id) r valid = begins (id_word spelling id) r (id_plain id valid)
  token_begins (Axiom l) r valid = begins (literal_word l) r (literal_plain l)
  token_begins Negated r valid = begins (codes "~") r refl
  token_begins Denied r valid = begins (codes "!") r refl
  token_begins Add r valid = begins (codes "+") r refl
  token_begins (Mul (pos n)) r valid = begins (decimal n) (codes "*" ∷ r) (number_plain n (omega (arith, ints)))
  token_begins (Mul (negsuc n)) r valid = absurd (omega (arith, ints))
  token_begins (Div (pos n)) r valid = begins (decimal n) (codes "d" ∷ r) (number_plain n (omega (arith, ints)))
  token_begins (Div (negsuc n)) r valid = absurd (omega (arith, ints))
  token_begins Saturate r valid = begins (codes "s") r refl
  token_begins (Weaken var) r valid = begins (variable_word var) (codes "w" ∷ r) refl

-- ---- what ends a part

-- plain words don't begin with a mark
plain_no_mark : (words : List (List ℕ)) (mark : List ℕ) (rest : List (List ℕ)) → BeginsPlain words → is_mark (get_or mark 0 0) ≡ true → words ≡ mark ∷ rest → ⊥
plain_no_mark words mark rest plain is same =
    let first : get_or plain.word 0 0 ≡ get_or mark 0 0 = ap first_byte (sym plain.is ∙ same) in
    no_mark (get_or plain.word 0 0) (get_or mark 0 0) plain.plain is first

pub plain_no_end : (words s : List (List ℕ)) → BeginsPlain words → EndsPart s → words ≡ s → ⊥
plain_no_end words [] plain end same = let none : plain.word ∷ plain.rest ≡ [] = sym plain.is ∙ same in cc
plain_no_end words (w ∷ ws) plain end same = plain_no_mark words w ws plain (ap (λ v. is_mark (get_or v 0 0)) end) same

follows_letter : (r : List (List ℕ)) (letter : ℕ) → first_letter r ≡ letter → letter ≢ 42 → letter ≢ 100 → letter ≢ 119 → FollowsAny r
follows_letter r letter is no_product no_quotient no_weakening = record {
  no_product = λ e. no_product (sym is ∙ e);
  no_quotient = λ e. no_quotient (sym is ∙ e);
  no_weakening = λ e. no_weakening (sym is ∙ e);
}

no_letter : (r : List (List ℕ)) → first_letter r ≡ 0 → FollowsAny r
no_letter r is = follows_letter r 0 is (λ e. omega arith) (λ e. omega arith) (λ e. omega arith)

word_follows : (word : List ℕ) (rest : List (List ℕ)) → is_mark (get_or word 0 0) ≡ false → FollowsAny (word ∷ rest)
word_follows [] rest plain = no_letter ([] ∷ rest) refl
word_follows (b ∷ []) rest plain = follows_letter ((b ∷ []) ∷ rest) b refl (λ e. no_mark b 42 plain refl e) (λ e. no_mark b 100 plain refl e) (λ e. no_mark b 119 plain refl e)
word_follows (b ∷ c ∷ word) rest plain = no_letter ((b ∷ c ∷ word) ∷ rest) refl

pub plain_follows : (words : List (List ℕ)) → BeginsPlain words → FollowsAny words
plain_follows words plain = subst FollowsAny (sym plain.is) (word_follows plain.word plain.rest plain.plain)

pub end_follows : (r : List (List ℕ)) → EndsPart r → FollowsAny r
end_follows [] end = no_letter [] refl
end_follows (w ∷ ws) end = subst (λ (v : List ℕ). FollowsAny (v ∷ ws)) (sym end) (follows_letter ((58 ∷ []) ∷ ws) 58 refl (λ e. omega arith) (λ e. omega arith) (λ e. omega arith))
