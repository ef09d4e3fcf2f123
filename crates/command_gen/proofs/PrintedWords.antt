-- Words with one blank between each two are read back.
use Rattle.std.proofs.Common.{◌≡◌, ℕ, ◌-◌, ◌<◌, ◌==◌, false, not, cond, List, [], ◌∷◌, ◌++◌, length, refl, ap, ◌∙◌, append-nil, arith}
use Rattle.std.specs.Prelude.{All, slice_index}
use Rattle.std.specs.List.{filter, slice_split}
use Rattle.std.specs.Str.Lines.{strip_carriage_return}
use Rattle.std.proofs.lemmas.Bool.{ne_eqb}
use Rattle.std.proofs.lemmas.List.{length-append}
use Rattle.std.proofs.lemmas.List.Elements.{All-append, All-cons, All-nil, All-weaker}
use Rattle.std.proofs.lemmas.List.Splits.{slice_split_at, slice_split_none}
use Rattle.mcnf_reader.specs.Words.{is_blank, words_of}

-- it has bytes, and each is above a blank
abbrev pub IsWord : List ℕ → Type 0
IsWord word = (0 < length word) × All (λ b. 32 < b) word

abbrev pub AreWords : List (List ℕ) → Type 0
AreWords [] = Unit {0}
AreWords (word ∷ words) = IsWord word × AreWords words

-- each word after a blank
abbrev pub spaced : List (List ℕ) → List ℕ
spaced [] = []
spaced (word ∷ words) = 32 ∷ word ++ spaced words

-- one word or more
abbrev pub IsLine : List (List ℕ) → Type 0
IsLine [] = ⊥
IsLine (word ∷ words) = IsWord word × AreWords words

abbrev pub line_of : List (List ℕ) → List ℕ
line_of [] = []
line_of (word ∷ words) = word ++ spaced words

above_is_no_blank : (b : ℕ) → 32 < b → is_blank b ≡ false
above_is_no_blank b above =
    let space : (b == 32) ≡ false = ne_eqb b 32 (λ e. absurd (omega arith)) in
    let tab : (b == 9) ≡ false = ne_eqb b 9 (λ e. absurd (omega arith)) in
    rw (space, tab)

no_blank : (word : List ℕ) → All (λ b. 32 < b) word → All (λ b. is_blank b ≡ false) word
no_blank word above = All-weaker (λ b. 32 < b) (λ b. is_blank b ≡ false) above_is_no_blank word above

-- what has bytes is kept
kept : (word : List ℕ) (words : List (List ℕ)) → 0 < length word → filter (λ w. not (length w == 0)) (word ∷ words) ≡ word ∷ filter (λ w. not (length w == 0)) words
kept word words some =
    let is : (length word == 0) ≡ false = ne_eqb (length word) 0 (λ e. absurd (omega arith)) in
    ap (λ b. cond (not b) (word ∷ filter (λ w. not (length w == 0)) words) (filter (λ w. not (length w == 0)) words)) is

pub words_back : (word : List ℕ) (words : List (List ℕ)) → IsWord word → AreWords words → words_of (word ++ spaced words) ≡ word ∷ words
words_back word [] is are =
    ap words_of (append-nil word)
    ∙ ap (filter (λ w. not (length w == 0))) (slice_split_none is_blank word (no_blank word is.1))
    ∙ kept word [] is.0
words_back word (next ∷ words) is are =
    ap (filter (λ w. not (length w == 0))) (slice_split_at is_blank word 32 (next ++ spaced words) (no_blank word is.1) refl)
    ∙ kept word (slice_split is_blank (next ++ spaced words)) is.0
    ∙ ap (λ ws. word ∷ ws) (words_back next words are.0 are.1)

-- ---- a line

high : (word : List ℕ) → All (λ b. 32 < b) word → All (λ b. 13 < b) word
high word above = All-weaker (λ b. 32 < b) (λ b. 13 < b) (λ b is. omega arith) word above

spaced_high : (words : List (List ℕ)) → AreWords words → All (λ b. 13 < b) (spaced words)
spaced_high [] are = All-nil (λ b. 13 < b)
spaced_high (word ∷ words) are =
    All-cons (λ b. 13 < b) 32 (word ++ spaced words) (omega arith)
    (All-append (λ b. 13 < b) word (spaced words) (high word are.0.1) (spaced_high words are.1))

line_high : (words : List (List ℕ)) → IsLine words → All (λ b. 13 < b) (line_of words)
line_high [] is = absurd is
line_high (word ∷ words) is = All-append (λ b. 13 < b) word (spaced words) (high word is.0.1) (spaced_high words is.1)

line_some : (words : List (List ℕ)) → IsLine words → 0 < length (line_of words)
line_some [] is = absurd is
line_some (word ∷ words) is = let some : 0 < length word = is.0.0 in omega (arith, length-append word (spaced words))

-- no line feed stands in a line
pub line_feedless : (words : List (List ℕ)) → IsLine words → All (λ b. (b == 10) ≡ false) (line_of words)
line_feedless words is = All-weaker (λ b. 13 < b) (λ b. (b == 10) ≡ false) (λ b above. ne_eqb b 10 (λ e. absurd (omega arith))) (line_of words) (line_high words is)

whole : (line : List ℕ) → 0 < length line → All (λ b. 13 < b) line → strip_carriage_return line ≡ line
whole line some above =
    let last : 13 < slice_index line (length line - 1) = above (length line - 1) 0 (omega arith) in
    let is : (slice_index line (length line - 1) == 13) ≡ false = ne_eqb (slice_index line (length line - 1)) 13 (λ e. absurd (omega (arith, e, last))) in
    rw is

pub line_back : (words : List (List ℕ)) → IsLine words → words_of (strip_carriage_return (line_of words)) ≡ words
line_back [] is = absurd is
line_back (word ∷ words) is =
    ap words_of (whole (line_of (word ∷ words)) (line_some (word ∷ words) is) (line_high (word ∷ words) is))
    ∙ words_back word words is.0 is.1
