-- Fewer ids are made in a log than its text has bytes.
use Rattle.std.proofs.Common.{◌≡◌, ℕ, ◌+◌, ◌≤◌, ◌^◌, List, [], ◌∷◌, ◌++◌, length, codes, refl, ap, arith}
use Rattle.std.specs.List.{flat_map}
use Rattle.std.proofs.lemmas.List.{length-append}
use Rattle.scut_base.specs.Bytes.{newline, space}
use Rattle.proof_laws.specs.Steps.{made}
use Rattle.proof_laws.specs.declared.line.Line.{Line}
use Rattle.proof_laws.specs.declared.line.Line.TheVariants.{Pol, Rup, Learn, Def, Red, Dom, Sol, Del, Reduce, End}
use Rattle.proof_lines.specs.Ids.{after_line}
use Rattle.proof_lines.specs.LineText.{constraint_words, line_text, printed, variable_word}
use Rattle.proof_lines.specs.declared.spelling.Spelling.{Spelling}
use Rattle.proof_lines.specs.declared.spelling.Spelling.TheVariants.{Plain, Relative}
use Rattle.proof_text.specs.LogText.{BeginsWith}
use Rattle.proof_text.specs.Versions.{AllFit, IsFirst, header_line, lines_text, log_text}

-- how many ids the lines make
abbrev pub made_by : List Line → ℕ
made_by [] = 0
made_by (line ∷ lines) = made line + made_by lines

behind : (s : Spelling) (line : Line) → length (printed s line) ≡ length (line_text s line) + 1
behind s line = length-append (line_text s line) (newline ∷ [])

-- a line makes no more ids than its text has bytes
long_line : (s : Spelling) (line : Line) → made line ≤ length (printed s line)
long_line s (Pol tokens) = omega (arith, behind s (Pol tokens))
long_line s (Rup goal hints) = omega (arith, behind s (Rup goal hints))
long_line s (Learn goal hints) = omega (arith, behind s (Learn goal hints))
long_line s (Def var sum) =
    let words : List ℕ = flat_map (λ w. space ∷ w) (variable_word var ∷ codes ":" ∷ constraint_words sum) in
    let text : length (line_text s (Def var sum)) ≡ 3 + length words = length-append (codes "def") words in
    omega (arith, behind s (Def var sum), text)
long_line s (Red goal witness proofs) = omega (arith, behind s (Red goal witness proofs))
long_line s (Dom goal witness proofs) = omega (arith, behind s (Dom goal witness proofs))
long_line s (Sol model cut rows) = omega (arith, behind s (Sol model cut rows))
long_line s (Del ids) = omega arith
long_line s (Reduce ids) = omega arith
long_line s (End id) = omega arith

long_lines : (s : Spelling) (lines : List Line) → made_by lines ≤ length (lines_text s lines)
long_lines s [] = omega arith
long_lines s (l ∷ ls) = omega (arith, long_line s l, long_lines (after_line s l) ls, length-append (printed s l) (lines_text (after_line s l) ls))

fit_relative : (rows next : ℕ) (lines : List Line) → next + made_by lines ≤ 2 ^ 63 → AllFit (Relative rows next) lines
fit_relative rows next [] low = tt
fit_relative rows next (l ∷ ls) low = (omega (arith, low), fit_relative rows (next + made l) ls (omega (arith, low)))

fit_plain : (lines : List Line) → AllFit Plain lines
fit_plain [] = tt
fit_plain (l ∷ ls) = (tt, fit_plain ls)

few_fit : (first : Spelling) (lines : List Line) → IsFirst first → made_by lines ≤ 2 ^ 62 → AllFit first lines
few_fit Plain lines version few = fit_plain lines
few_fit (Relative rows next) lines version few = fit_relative rows next lines (omega (arith, version.0, version.1, few))

-- the lines of a log of at most 2^62 bytes can be spelled in either version, over any number of rows
pub fit_anew : (bytes : List ℕ) (lines : List Line) (rest : List ℕ) → BeginsWith bytes lines rest → length bytes ≤ 2 ^ 62 → (first : Spelling) → IsFirst first → AllFit first lines
fit_anew bytes lines rest begins short first version =
    few_fit first lines version
    (omega (
      arith,
      short,
      long_lines begins.first lines,
      ap length begins.is,
      length-append (log_text begins.first lines) rest,
      length-append (header_line begins.first) (lines_text begins.first lines),
    ))
