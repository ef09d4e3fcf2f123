-- How a text is cut into words.
use Rattle.std.proofs.Common.{◌≡◌, ℕ, ◌+◌, ◌-◌, ◌<◌, ◌≤◌, ◌↔◌, Bool, true, false, List, [], ◌∷◌, length, take, drop, Option, Some, None, refl, sym, ap, ◌∙◌, arith}
use Rattle.std.specs.Prelude.{IsTrue, is_some, not}
use Rattle.std.specs.Option.{option_copied}
use denote.Ref.{Bor}
use Rattle.std.specs.List.{position_or_len, count_by}
use Rattle.std.proofs.lemmas.List.{take_rest}
use Rattle.std.proofs.lemmas.List.Elements.{All-from_get_or}
use Rattle.std.proofs.lemmas.List.Splits.{slice_split_none, slice_split_first, length-slice_split}
use Rattle.std.proofs.lemmas.List.Sums.{fails_before_first}
use Rattle.proof_lines.specs.Reading.{is_space, words_of, words_left}

-- a text has a word
pub some_word : (text : List ℕ) → words_of text ≡ [] → ⊥
some_word text none =
    let count : length (words_of text) ≡ count_by is_space text + 1 = length-slice_split is_space text in
    let zero_is : length (words_of text) ≡ 0 = ap length none in
    omega arith

-- a text without spaces is one word
pub only_word : (text : List ℕ) (n : ℕ) → n ≡ position_or_len is_space text → length text ≤ n → words_of text ≡ text ∷ []
only_word text n place past = slice_split_none is_space text (All-from_get_or (λ x. is_space x ≡ false) text 0 (λ k lt. fails_before_first is_space text k 0 (omega arith)))

-- the word before the first space, and the words after it
pub first_word : (text : List ℕ) (n : ℕ) → n ≡ position_or_len is_space text → n < length text → words_of text ≡ take n text ∷ words_of (take (length text - (n + 1)) (drop (n + 1) text))
first_word text n place lt =
    let at : position_or_len is_space text < length text = omega arith in
    let whole : take (length text - (n + 1)) (drop (n + 1) text) ≡ drop (n + 1) text = take_rest text (n + 1) in
    let cut : words_of text ≡ take (position_or_len is_space text) text ∷ words_of (drop (position_or_len is_space text + 1) text) = slice_split_first is_space text 0 at in
    cut ∙ ap (λ m. take m text ∷ words_of (drop (m + 1) text)) (sym place) ∙ ap (λ t. take n text ∷ words_of t) (sym whole)

-- whether no text is left
pub none_left : (rest : Option (Bor (List ℕ))) (words : List (List ℕ)) (r : Bool) → words_left (option_copied rest) ≡ words → is_some rest ≡ not r → IsTrue r ↔ (words ≡ [])
none_left None words true is test = (λ passed. sym is, λ empty. refl)
none_left None words false is test = cc
none_left (Some text) words true is test = cc
none_left (Some text) words false is test = (λ passed. cc, λ empty. absurd (some_word text.now (is ∙ empty)))
