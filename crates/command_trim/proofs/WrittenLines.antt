-- Lines that are written one after another behind a header.
use Rattle.std.proofs.Common.{◌≡◌, ℕ, ◌+◌, ◌<◌, List, [], ◌∷◌, ◌++◌, length, take, drop, get_or, refl, sym, ◌∙◌, ap, inl, inr}
use Rattle.std.specs.Prelude.{Option}
use Rattle.std.proofs.lemmas.List.{append_assoc, take-append-drop, take_more}
use Rattle.scut_base.specs.Files.{Files, IsPrefixOf, IsTouched, with_file}
use Rattle.proof_laws.specs.declared.line.Line.{Line}
use Rattle.proof_lines.specs.LineText.{printed}
use Rattle.proof_lines.specs.declared.spelling.Spelling.TheVariants.{Plain}
use Rattle.proof_text.specs.LogFile.{IsNotBegun}
use Rattle.proof_text.specs.Recorders.{IsPutPartly}
use Rattle.proof_text.specs.Versions.{after_lines, header_line, lines_text, log_text}
use Rattle.proof_text.proofs.Logs.{log_text_push}
use Rattle.scut_base.proofs.FileLaws.{partly_by}

-- ids stay in digits
always_plain : (lines : List Line) → after_lines Plain lines ≡ Plain
always_plain [] = refl
always_plain (line ∷ lines) = always_plain lines

pub text_more : (lines : List Line) (i : ℕ) (line : Line) → i < length lines → line ≡ get_or lines i line → log_text Plain (take (i + 1) lines) ≡ log_text Plain (take i lines) ++ printed Plain line
text_more lines i line lt is =
    ap (log_text Plain) (take_more lines i line lt ∙ ap (λ (l : Line). take i lines ++ l ∷ []) (sym is))
    ∙ log_text_push Plain (take i lines) line
    ∙ ap (λ s. log_text Plain (take i lines) ++ printed s line) (always_plain (take i lines))

-- the text of some lines and of those after them
text_split : (first rest : List Line) → log_text Plain (first ++ rest) ≡ log_text Plain first ++ lines_text Plain rest
text_split first rest = ap (λ (t : List ℕ). header_line Plain ++ t) (texts first) ∙ sym (append_assoc (header_line Plain) (lines_text Plain first) (lines_text Plain rest))
  where
    texts : (ls : List Line) → lines_text Plain (ls ++ rest) ≡ lines_text Plain ls ++ lines_text Plain rest
    texts [] = refl
    texts (line ∷ ls) = ap (λ (t : List ℕ). printed Plain line ++ t) (texts ls) ∙ sym (append_assoc (printed Plain line) (lines_text Plain ls) (lines_text Plain rest))

pub text_rest : (lines : List Line) (i : ℕ) (line : Line) → i < length lines → line ≡ get_or lines i line → log_text Plain (take i lines) ++ printed Plain line ++ lines_text Plain (drop (i + 1) lines) ≡ log_text Plain lines
text_rest lines i line lt is =
    ap (λ (t : List ℕ). t ++ lines_text Plain (drop (i + 1) lines)) (sym (text_more lines i line lt is))
    ∙ sym (text_split (take (i + 1) lines) (drop (i + 1) lines))
    ∙ ap (log_text Plain) (take-append-drop (i + 1) lines)

-- a file that holds no more than a part of the header
pub header_partly : (old new : Option Files) (name : List ℕ) (lines : List Line) → IsNotBegun old new name Plain → IsTouched old new name (λ bytes. IsPrefixOf bytes (log_text Plain lines))
header_partly old new name lines (inl same) = inl same
header_partly old new name lines (inr put) =
    inr (put.0, (put.1.0 ++ lines_text Plain lines, sym (append_assoc put.0 put.1.0 (lines_text Plain lines)) ∙ ap (λ (t : List ℕ). t ++ lines_text Plain lines) put.1.1), put.2)

-- a file that holds lines, and then a part of the next one
pub next_partly : (old mid new : Option Files) (name : List ℕ) (lines : List Line) (i : ℕ) (line : Line) → i < length lines → line ≡ get_or lines i line → mid ≡ with_file old name (log_text Plain (take i lines)) → IsPutPartly mid new name (printed Plain line)
    → IsTouched old new name (λ bytes. IsPrefixOf bytes (log_text Plain lines))
next_partly old mid new name lines i line lt is held (inl same) =
    inr (log_text Plain (take i lines), (printed Plain line ++ lines_text Plain (drop (i + 1) lines), sym (append_assoc (log_text Plain (take i lines)) (printed Plain line) (lines_text Plain (drop (i + 1) lines))) ∙ text_rest lines i line lt is), same ∙ held)
next_partly old mid new name lines i line lt is held (inr partly) = partly_by mid old new name (log_text Plain (take i lines)) (printed Plain line) (lines_text Plain (drop (i + 1) lines)) (log_text Plain lines) held partly (text_rest lines i line lt is)
