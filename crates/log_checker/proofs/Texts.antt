-- Where lines end in a log.
use Rattle.std.proofs.Common.{◌≡◌, inl, ℕ, List, [], ◌∷◌, ◌++◌, refl, sym, subst, ap, ◌∙◌, arith}
use Rattle.scut_base.specs.Bytes.{newline}
use Rattle.proof_laws.specs.declared.line.Line.{Line}
use Rattle.proof_lines.specs.Ids.{FitsNext, IsSpelling}
use Rattle.proof_lines.specs.LineText.{line_text, printed, SpellsLine}
use Rattle.proof_lines.specs.declared.spelling.Spelling.{Spelling}
use Rattle.proof_lines.specs.declared.spelling.Spelling.TheVariants.{Plain}
use Rattle.proof_lines.proofs.OneLine.{one_line_of}
use Rattle.proof_text.specs.Versions.{after_lines, header_text, lines_text, log_text}
use Rattle.proof_text.specs.LogText.{BeginsWith, HoldsNoFurtherLine, IsOneLine, IsWholeLine, IsUnfinishedAt, newlines}
use Rattle.proof_text.proofs.OneLines.{newlines-append, newlines-one, not_one, same_line}
use Rattle.proof_text.proofs.Words.{line_text-one}
use Rattle.proof_text.proofs.Logs.{body, fine_after, first_fine, fit_last, headed, log_text_more, one_first, printed_is}
use Rattle.proof_laws.specs.WellFormed.{IsWellFormed}
use Rattle.std.proofs.lemmas.List.{append_cancel_left}
use Rattle.std.proofs.lemmas.List.Elements.{All-contains, Contains-push}

pub whole_has_newline : (rest text after : List ℕ) → IsWholeLine rest text after → IsOneLine rest → ⊥
whole_has_newline rest text after whole one = not_one text after (subst (λ (t : List ℕ). IsOneLine t) whole.is one)

pub begins_has_newline : (bytes : List ℕ) (lines : List Line) (rest : List ℕ) → BeginsWith bytes lines rest → IsOneLine bytes → ⊥
begins_has_newline bytes lines rest begins one =
    let after : List ℕ = lines_text begins.first lines ++ rest in
    not_one (header_text begins.first) after (subst (λ (t : List ℕ). IsOneLine t) (begins.is ∙ body begins.first lines rest ∙ headed begins.first after) one)

-- ---- the line that bytes begin with

-- The bytes begin with the text of this line, which spells its ids so.
pub record Starts (spelling : Spelling) (rest : List ℕ) (line : Line) (after : List ℕ) : Type 0 where
  pub fine : IsSpelling spelling
  pub spells : SpellsLine spelling (line_text spelling line) line
  pub whole : IsWholeLine rest (line_text spelling line) after

-- they begin with one line alone
pub starts_once : (spelling : Spelling) (rest : List ℕ) (l m : Line) (a b : List ℕ) → Starts spelling rest l a → Starts spelling rest m b → l ≡ m
starts_once spelling rest l m a b x y =
    let both = same_line (line_text spelling l) (line_text spelling m) a b x.whole.one y.whole.one (sym x.whole.is ∙ y.whole.is) in
    one_line_of spelling x.fine (line_text spelling l) l m x.spells (record { formed = y.spells.formed; fits = y.spells.fits; is = both.0 })

-- the bytes after some lines, where one more is there
pub last_line : (bytes : List ℕ) (lines : List Line) (line : Line) (rest after : List ℕ) → (begins : BeginsWith bytes lines rest) → BeginsWith bytes (lines ++ line ∷ []) after → Starts (after_lines begins.first lines) rest line after
last_line bytes lines line rest after begins further =
    let first : Spelling = begins.first in
    let spelling : Spelling = after_lines first lines in
    let same : further.first ≡ first = one_first bytes (lines ++ line ∷ []) lines after rest further begins in
    let is : bytes ≡ log_text first (lines ++ line ∷ []) ++ after = subst (λ (x : Spelling). bytes ≡ log_text x (lines ++ line ∷ []) ++ after) same further.is in
    let text : rest ≡ printed spelling line ++ after = append_cancel_left (log_text first lines) rest (printed spelling line ++ after) (sym begins.is ∙ is ∙ log_text_more first lines line after) in
    record {
      fine = fine_after first lines (first_fine first begins.version) begins.fit;
      spells = record {
        formed = All-contains IsWellFormed (lines ++ line ∷ []) line further.formed (Contains-push lines line);
        fits = subst (λ (x : Spelling). FitsNext (after_lines x lines) line) same (fit_last further.first lines line further.fit);
        is = refl;
      };
      whole = record { one = line_text-one spelling line; is = text ∙ printed_is spelling line after };
    }

-- ---- ends

newlines_before : (bytes before text : List ℕ) → bytes ≡ before ++ text → IsOneLine text → newlines bytes ≡ newlines before
newlines_before bytes before text is one = omega (arith, ap newlines is, newlines-append before text, newlines-one text one)

-- a text ends in the midst of one line alone
pub unfinished_once : (bytes : List ℕ) (j k : ℕ) → IsUnfinishedAt bytes j → IsUnfinishedAt bytes k → j ≡ k
unfinished_once bytes j k a b = omega (arith, a.number, b.number, newlines_before bytes a.before a.text a.is a.one, newlines_before bytes b.before b.text b.is b.one)

-- no bytes hold no further line
pub nothing_held : HoldsNoFurtherLine [] []
nothing_held = inl (Plain, tt, (header_text Plain, refl))
