-- The lines of a printed text are read back.
use Rattle.std.proofs.Common.{◌≡◌, ℕ, ◌==◌, List, [], ◌∷◌, ◌++◌, map, refl, sym, ap, ◌∙◌, append_assoc}
use Rattle.std.specs.Str.Lines.{strip_carriage_return}
use Rattle.std.proofs.lemmas.List.Splits.{slice_split_at}
use Rattle.mcnf_reader.specs.Words.{lines_of, words_of}
use Rattle.command_gen.proofs.PrintedWords.{IsLine, line_back, line_feedless, line_of}

-- lines of words
abbrev pub AreLines : List (List (List ℕ)) → Type 0
AreLines [] = Unit {0}
AreLines (words ∷ lines) = IsLine words × AreLines lines

-- each line with its line feed
abbrev pub text_of : List (List (List ℕ)) → List ℕ
text_of [] = []
text_of (words ∷ lines) = line_of words ++ 10 ∷ text_of lines

-- behind the last line feed a line without words is read
pub text_back : (lines : List (List (List ℕ))) → AreLines lines → map words_of (lines_of (text_of lines)) ≡ lines ++ [] ∷ []
text_back [] are = refl
text_back (words ∷ lines) are =
    ap (λ parts. map words_of (map strip_carriage_return parts)) (slice_split_at (λ b. b == 10) (line_of words) 10 (text_of lines) (line_feedless words are.0) refl)
    ∙ ap (λ first. first ∷ map words_of (lines_of (text_of lines))) (line_back words are.0)
    ∙ ap (λ rest. words ∷ rest) (text_back lines are.1)

pub text_of-append : (first second : List (List (List ℕ))) → text_of (first ++ second) ≡ text_of first ++ text_of second
text_of-append [] second = refl
text_of-append (words ∷ lines) second =
    ap (λ rest. line_of words ++ 10 ∷ rest) (text_of-append lines second)
    ∙ sym (append_assoc (line_of words) (10 ∷ text_of lines) (text_of second))

pub AreLines-append : (first second : List (List (List ℕ))) → AreLines first → AreLines second → AreLines (first ++ second)
AreLines-append [] second left right = right
AreLines-append (words ∷ lines) second left right = (left.0, AreLines-append lines second left.1 right)
