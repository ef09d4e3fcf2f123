-- Where words and lines are cut.
use Rattle.std.proofs.Common.{◌≡◌, ℕ, ◌+◌, ◌<◌, ◌≤◌, Bool, true, false, not, cond, List, [], ◌∷◌, length, take, drop, map, get_or, ⊎_elim, suc, zero, refl, sym, ap, ◌∙◌, arith}
use Rattle.std.specs.Prelude.{if◌then◌else◌, ◌==◌}
use Rattle.std.specs.List.{All, filter, slice_split, position_or_len}
use Rattle.std.specs.Str.Lines.{strip_carriage_return}
use Rattle.std.proofs.lemmas.Bool.{cases_lt}
use Rattle.std.proofs.lemmas.Bool.Decides.{nat_tests}
use Rattle.std.proofs.lemmas.List.{drop_more, drop_all, take_all}
use Rattle.std.proofs.lemmas.List.Elements.{All-from_get_or}
use Rattle.std.proofs.lemmas.List.Splits.{slice_split-cons_yes, slice_split_none, slice_split_first}
use Rattle.std.proofs.lemmas.List.Sums.{fails_before_first, passes_at_first}
use Rattle.scut_base.proofs.Lists.{first_within}
use Rattle.mcnf_reader.specs.Words.{lines_of, words_of, is_blank}

from_not : (b : Bool) → not b ≡ false → b ≡ true
from_not true e = refl
from_not false e = sym e

to_not : (b : Bool) → not b ≡ true → b ≡ false
to_not true e = sym e
to_not false e = refl

skip_one : (x : ℕ) (xs : List ℕ) → is_blank x ≡ true → words_of (x ∷ xs) ≡ words_of xs
skip_one x xs blank = ap (λ parts. filter (λ w. not (length w == 0)) parts) (slice_split-cons_yes is_blank x xs blank)

skip : (i : ℕ) (xs : List ℕ) → ((k : ℕ) → k < i → is_blank (get_or xs k 0) ≡ true) → i ≤ length xs → words_of (drop i xs) ≡ words_of xs
skip zero xs blank le = refl
skip (suc i) [] blank le = refl
skip (suc i) (x ∷ xs) blank le = skip i xs (λ k lt. blank (suc k) (omega arith)) (omega arith) ∙ sym (skip_one x xs (blank 0 (omega arith)))

-- blanks at the beginning make no words
pub words_skip : (xs : List ℕ) → words_of (drop (position_or_len (λ b. not (is_blank b)) xs) xs) ≡ words_of xs
words_skip xs = skip _ xs (λ k lt. from_not _ (fails_before_first (λ b. not (is_blank b)) xs k 0 lt)) (first_within (λ b. not (is_blank b)) xs)

not_zero : (n : ℕ) → not (suc n == 0) ≡ true
not_zero n = grind (arith, nat_tests)

keep_first : (w : List ℕ) (parts : List (List ℕ)) → 0 < length w → filter (λ v. not (length v == 0)) (w ∷ parts) ≡ w ∷ filter (λ v. not (length v == 0)) parts
keep_first (x ∷ w) parts lt = ap (λ b. cond b ((x ∷ w) ∷ filter (λ v. not (length v == 0)) parts) (filter (λ v. not (length v == 0)) parts)) (not_zero (length w))
keep_first [] parts lt = absurd (omega arith)

length_take_le : (n : ℕ) (xs : List ℕ) → n ≤ length xs → length (take n xs) ≡ n
length_take_le zero xs le = refl
length_take_le (suc n) (x ∷ xs) le = ap suc (length_take_le n xs (omega arith))
length_take_le (suc n) [] le = absurd (omega arith)

first_cut : (xs : List ℕ) → 0 < position_or_len is_blank xs → position_or_len is_blank xs < length xs → words_of xs ≡ take (position_or_len is_blank xs) xs ∷ words_of (drop (position_or_len is_blank xs) xs)
first_cut xs some lt =
    let n = position_or_len is_blank xs in
    let long : length (take n xs) ≡ n = length_take_le n xs (first_within is_blank xs) in
    let parts : words_of xs ≡ take n xs ∷ words_of (drop (n + 1) xs) = ap (λ parts. filter (λ v. not (length v == 0)) parts) (slice_split_first is_blank xs 0 lt) ∙ keep_first (take n xs) (slice_split is_blank (drop (n + 1) xs)) (omega arith) in
    let rest : words_of (drop n xs) ≡ words_of (drop (n + 1) xs) = ap words_of (drop_more xs n 0 lt) ∙ skip_one (get_or xs n 0) (drop (n + 1) xs) (passes_at_first is_blank xs 0 lt) in
    parts ∙ ap (λ more. take n xs ∷ more) (sym rest)

last_cut : (xs : List ℕ) → 0 < length xs → length xs ≤ position_or_len is_blank xs → words_of xs ≡ take (position_or_len is_blank xs) xs ∷ words_of (drop (position_or_len is_blank xs) xs)
last_cut xs some le =
    let n = position_or_len is_blank xs in
    let none : All (λ x. is_blank x ≡ false) xs = All-from_get_or (λ x. is_blank x ≡ false) xs 0 (λ i lt. fails_before_first is_blank xs i 0 (omega arith)) in
    let parts : words_of xs ≡ xs ∷ [] = ap (λ parts. filter (λ v. not (length v == 0)) parts) (slice_split_none is_blank xs none) ∙ keep_first xs [] some in
    let whole : take n xs ≡ xs = take_all n xs le in
    let nothing : drop n xs ≡ [] = drop_all n xs le in
    rw (whole, nothing) parts

-- a word is what stands before the first blank
pub words_first : (xs : List ℕ) → 0 < position_or_len is_blank xs → words_of xs ≡ take (position_or_len is_blank xs) xs ∷ words_of (drop (position_or_len is_blank xs) xs)
words_first xs some =
    let within : position_or_len is_blank xs ≤ length xs = first_within is_blank xs in
    ⊎_elim (λ lt. first_cut xs some lt) (λ le. last_cut xs (omega arith) le) (cases_lt (position_or_len is_blank xs) (length xs))

starts_blank : (x : ℕ) (xs : List ℕ) → is_blank x ≡ false → position_or_len is_blank (x ∷ xs) ≡ 0 → ⊥
starts_blank x xs no_blank none = absurd (grind arith)

-- after the blanks, no word is left only at the end of the line
pub nothing_left : (xs : List ℕ) → position_or_len is_blank (drop (position_or_len (λ b. not (is_blank b)) xs) xs) ≡ 0 → drop (position_or_len (λ b. not (is_blank b)) xs) xs ≡ []
nothing_left xs none =
    let p : ℕ → Bool = λ b. not (is_blank b) in
    let n = position_or_len p xs in
    ⊎_elim (λ lt. absurd (starts_blank (get_or xs n 0) (drop (n + 1) xs) (to_not _ (passes_at_first p xs 0 lt)) (ap (λ ys. position_or_len is_blank ys) (sym (drop_more xs n 0 lt)) ∙ none))) (λ le. drop_all n xs le) (cases_lt n (length xs))

-- the first line ends at the first line feed
pub lines_first : (text : List ℕ) → position_or_len (λ b. b == 10) text < length text → lines_of text ≡ strip_carriage_return (take (position_or_len (λ b. b == 10) text) text) ∷ lines_of (drop (position_or_len (λ b. b == 10) text + 1) text)
lines_first text lt = ap (λ parts. map strip_carriage_return parts) (slice_split_first (λ b. b == 10) text 0 lt)

-- with no line feed there is one line
pub lines_last : (text : List ℕ) → length text ≤ position_or_len (λ b. b == 10) text → lines_of text ≡ strip_carriage_return (take (position_or_len (λ b. b == 10) text) text) ∷ []
lines_last text le =
    let none : All (λ b. (b == 10) ≡ false) text = All-from_get_or (λ b. (b == 10) ≡ false) text 0 (λ i lt. fails_before_first (λ b. b == 10) text i 0 (omega arith)) in
    let parts : lines_of text ≡ strip_carriage_return text ∷ [] = ap (λ parts. map strip_carriage_return parts) (slice_split_none (λ b. b == 10) text none) in
    let whole : take (position_or_len (λ b. b == 10) text) text ≡ text = take_all _ text le in
    rw whole parts

-- what is left after the blanks is empty or begins with a word
pub at_word : (xs : List ℕ) → 0 < length (drop (position_or_len (λ b. not (is_blank b)) xs) xs) → 0 < position_or_len is_blank (drop (position_or_len (λ b. not (is_blank b)) xs) xs)
at_word xs some =
    let text = drop (position_or_len (λ b. not (is_blank b)) xs) xs in
    ⊎_elim (λ lt. lt) (λ le. absurd (omega (arith, ap length (nothing_left xs (omega (arith, le)))))) (cases_lt 0 (position_or_len is_blank text))

-- one line is taken, and there are more
pub take_line : (all : List (List ℕ)) (text rest line : List ℕ) (ended : Bool) (n : ℕ) → (if ended then [] else lines_of text) ≡ all → ended ≡ false → n ≡ position_or_len (λ b. b == 10) text → n < length text → line ≡ strip_carriage_return (take n text) → rest ≡ drop (n + 1) text → all ≡ line ∷ (if ended then [] else lines_of rest)
take_line all text rest line true n view off at lt cut left = cc
take_line all text rest line false n view off at lt cut left =
    let first : lines_of text ≡ strip_carriage_return (take n text) ∷ lines_of (drop (n + 1) text) = rw at (lines_first text (rw (← at) lt)) in
    sym view ∙ first ∙ rw (cut, left) refl

-- the last line is taken
pub take_last_line : (all : List (List ℕ)) (text line : List ℕ) (ended : Bool) (n : ℕ) → (if ended then [] else lines_of text) ≡ all → ended ≡ false → n ≡ position_or_len (λ b. b == 10) text → length text ≤ n → line ≡ strip_carriage_return (take n text) → all ≡ line ∷ []
take_last_line all text line true n view off at le cut = cc
take_last_line all text line false n view off at le cut =
    let last : lines_of text ≡ strip_carriage_return (take n text) ∷ [] = rw at (lines_last text (rw (← at) le)) in
    sym view ∙ last ∙ rw cut refl
