-- How the lines of a log come into another file.
use Rattle.std.proofs.Common.{◌≡◌, inl, inr, ℕ, ◌+◌, ◌^◌, ◌<◌, Option, None, Some, List, [], ◌∷◌, ◌++◌, length, refl, sym, ap, subst, ◌∙◌, arith}
use Rattle.std.specs.Prelude.{IsSome, Result, Ok, Err, true, false, Bool}
use Rattle.std.proofs.lemmas.List.{append-nil, append_assoc}
use Rattle.std.proofs.lemmas.List.Elements.{All-push}
use Rattle.scut_base.specs.Files.{Files, bytes_or_none, content, with_appended, IsTold}
use Rattle.scut_base.specs.declared.shelf.ShelfFault.{ShelfFault}
use Rattle.scut_base.specs.declared.shelf.ShelfFault.TheVariants.{Failed, NoMemory as ShelfMemory}
use Rattle.scut_base.proofs.FileLaws.{content-same, told_before}
use Rattle.proof_laws.specs.Steps.{made}
use Rattle.proof_laws.specs.WellFormed.{IsWellFormed}
use Rattle.proof_laws.specs.declared.line.Line.{Line}
use Rattle.proof_laws.specs.declared.why.Why.{Why}
use Rattle.proof_lines.specs.Ids.{FitsNext, after_line}
use Rattle.proof_lines.specs.LineText.{printed}
use Rattle.proof_lines.specs.declared.spelling.Spelling.{Spelling}
use Rattle.proof_lines.specs.declared.spelling.Spelling.TheVariants.{Plain, Relative}
use Rattle.proof_text.specs.LogText.{HoldsNoFurtherLine, IsSyntaxAt}
use Rattle.proof_text.specs.Reading.{GivesNext, ReaderValue, StandsFor}
use Rattle.proof_text.specs.Recorders.{IsPutPartly}
use Rattle.proof_text.specs.Versions.{after_lines, log_text}
use Rattle.proof_text.specs.Writing.{WriterValue, writer_after}
use Rattle.proof_text.specs.declared.fault.TextFault.{TextFault}
use Rattle.proof_text.specs.declared.fault.TextFault.TheVariants.{Syntax as SyntaxAt, NoMemory as TextMemory}
use Rattle.proof_text.proofs.Logs.{after_push, fit_push, log_text_push}
use Rattle.log_checker.proofs.Answering.{given, right_upto}
use Rattle.command_base.specs.RewrittenSoFar.{HoldsAnswers, IsLeft, IsNext, IsUnderway, RewritesLine, RewritesNext, StopsAt, stop_of}
use Rattle.command_base.specs.StopsFrom.{log_of_line, log_of_shelf}
use Rattle.command_base.specs.WholeFile.{IsWhole}
use Rattle.command_base.specs.declared.log_file.LineFault.{LineFault}
use Rattle.command_base.specs.declared.log_file.LineFault.TheVariants.{Refused, NoMemory}
use Rattle.command_base.specs.declared.stops.LogStop.{LogStop}
use Rattle.command_base.specs.declared.stops.LogStop.TheVariants.{ShelfFailed}
use Rattle.command_base.proofs.LogLines.{before_wrong, begins_last, last_fits}

-- what answers lines was never at fault for a file
pub never_shelf : (fault : LineFault) → log_of_line fault ≡ ShelfFailed → ⊥
never_shelf (Refused k why) is = cc
never_shelf NoMemory is = cc

some_is_some : (o : Option (List ℕ)) (b : List ℕ) → o ≡ Some b → IsSome o
some_is_some o b is = subst IsSome (sym is) refl

pub there : (files : Option Files) (name text : List ℕ) → IsWhole files name text → IsTold files → IsSome (content files name)
there files name text holds told = some_is_some (content files name) text (holds told)

-- a piece more stands in the file
holds_more : (old new : Option Files) (name text piece : List ℕ) → IsWhole old name text → new ≡ with_appended old name piece → IsWhole new name (text ++ piece)
holds_more old new name text piece holds is told =
    let before : IsTold old = told_before old name _ (subst IsTold is told) in
    ap (λ (f : Option Files). content f name) is ∙ content-same old name _ before ∙ ap (λ (o : Option (List ℕ)). Some (bytes_or_none o ++ piece)) (holds before)

-- what was written of lines, and nothing more
pub left_by_lines : (files : Option Files) (answers : List Line → List Line → Type 0) (w : WriterValue) (bytes : List ℕ) (lines news : List Line) (line : Line) → IsNext files answers w bytes lines news line
    → (after : List Line → List Line → Type 0) → after lines news → IsLeft files after w bytes
left_by_lines files answers w bytes lines news line was after stays = record {
  lines = lines;
  news = news;
  given = was.before;
  answered = stays;
  text = log_text w.first news;
  prefix = ([], append-nil (log_text w.first news));
  file = was.held.file;
}

-- the line isn't answered
pub not_answered : (files : Option Files) (answers : List Line → List Line → Type 0) (w : WriterValue) (bytes : List ℕ) (lines news : List Line) (line : Line) → IsNext files answers w bytes lines news line
    → (after : List Line → List Line → Type 0) (refuses : Line → Why → Type 0) (fault : LineFault) → after lines news → ((k : ℕ) (why : Why) → fault ≡ Refused k why → refuses line why) → ((k : ℕ) (why : Why) → fault ≡ Refused k why → k ≡ length lines + 2)
    → StopsAt after refuses (log_of_line fault) files w bytes
not_answered files answers w bytes lines news line was after refuses (Refused k why) stays refused number =
    let begins = begins_last bytes lines line was.given in
    record {
      lines = lines;
      news = news;
      given = was.before;
      answered = stays;
      held = was.held;
      refused = inr (line, refused k why refl, record { rest = begins.0; there = begins.1; number = number k why refl });
    }
not_answered files answers w bytes lines news line was after refuses NoMemory stays refused number = left_by_lines files answers w bytes lines news line was after stays

-- a line that makes as many ids
after_alike : (s : Spelling) (line new : Line) → made new ≡ made line → after_line s new ≡ after_line s line
after_alike Plain line new same = refl
after_alike (Relative rows next) line new same = ap (λ (n : ℕ). Relative rows (next + n)) same

fits_alike : (s : Spelling) (line new : Line) → made new ≡ made line → FitsNext s line → FitsNext s new
fits_alike Plain line new same fits' = tt
fits_alike (Relative rows next) line new same fits' = omega (arith, same, fits')

-- the line is answered
module _ (old : Option Files) (answers : List Line → List Line → Type 0) (w : WriterValue) (bytes : List ℕ) (lines news : List Line) (line : Line) (was : IsNext old answers w bytes lines news line)
    (after : List Line → List Line → Type 0) (new : Line) (answered : after (lines ++ line ∷ []) (news ++ new ∷ [])) (same : made new ≡ made line) where
  pub fits : FitsNext w.next new
  fits = fits_alike w.next line new same (subst (λ (s : Spelling). FitsNext s line) (sym (was.held.next ∙ was.held.ids)) (last_fits bytes lines line w.first was.given was.short was.held.first))

  -- the text of the answer, by how its ids are spelled
  text_more : log_text w.first news ++ printed w.next new ≡ log_text w.first (news ++ new ∷ [])
  text_more = ap (λ (s : Spelling). log_text w.first news ++ printed s new) was.held.next ∙ sym (log_text_push w.first news new)

  module _ (now : Option Files) where
    pub line_written : IsWellFormed new → (v : WriterValue) → v ≡ writer_after w new → now ≡ with_appended old w.name (printed w.next new) → HoldsAnswers now v (lines ++ line ∷ []) (news ++ new ∷ [])
    line_written formed v is put = subst (λ (u : WriterValue). HoldsAnswers now u (lines ++ line ∷ []) (news ++ new ∷ [])) (sym is) (record {
      first = was.held.first;
      formed = All-push IsWellFormed news new was.held.formed formed;
      fit = fit_push w.first news new was.held.fit (subst (λ (s : Spelling). FitsNext s new) was.held.next fits);
      ids = after_push w.first news new ∙ ap (λ (s : Spelling). after_line s new) was.held.ids ∙ after_alike (after_lines w.first lines) line new same ∙ sym (after_push w.first lines line);
      next = ap (λ (s : Spelling). after_line s new) was.held.next ∙ sym (after_push w.first news new);
      file = subst (IsWhole now w.name) text_more (holds_more old now w.name (log_text w.first news) (printed w.next new) was.held.file put);
    })

    left_by : IsPutPartly old now w.name (printed w.next new) → IsLeft now after w bytes
    left_by (inl alike) = record {
      lines = lines ++ line ∷ [];
      news = news ++ new ∷ [];
      given = was.given;
      answered = answered;
      text = log_text w.first news;
      prefix = (printed w.next new, text_more);
      file = subst (λ (f : Option Files). IsWhole f w.name (log_text w.first news)) (sym alike) was.held.file;
    }
    left_by (inr put) = record {
      lines = lines ++ line ∷ [];
      news = news ++ new ∷ [];
      given = was.given;
      answered = answered;
      text = log_text w.first news ++ put.0;
      prefix = (put.1.0, append_assoc (log_text w.first news) put.0 put.1.0 ∙ ap (λ (t : List ℕ). log_text w.first news ++ t) put.1.1 ∙ text_more);
      file = holds_more old now w.name (log_text w.first news) put.0 was.held.file put.2;
    }

    pub line_cut : (refuses : Line → Why → Type 0) (v : WriterValue) (fault : ShelfFault) → v ≡ w → IsPutPartly old now w.name (printed w.next new) → StopsAt after refuses (log_of_shelf fault) now v bytes
    line_cut refuses v Failed is put = subst (λ (u : WriterValue). IsLeft now after u bytes) (sym is) (left_by put)
    line_cut refuses v ShelfMemory is put = subst (λ (u : WriterValue). IsLeft now after u bytes) (sym is) (left_by put)

-- the reader gives a line, or none, or the next is wrong
module _ (files : Option Files) (r : ReaderValue) (answers : List Line → List Line → Type 0) (w : WriterValue) (bytes : List ℕ) (lines news : List Line) (was : IsUnderway files r answers w bytes lines news) (after : ReaderValue) where
  pub line_given : (line : Line) → StandsFor after bytes (lines ++ line ∷ []) → IsNext files answers w bytes lines news line
  line_given line stands = record {
    before = given r bytes lines was.read;
    given = given after bytes (lines ++ line ∷ []) stands;
    short = was.short;
    answered = was.answered;
    held = was.held;
  }

  pub none_more : (o : Option Line) → o ≡ None → GivesNext after bytes lines o → (more : List Line) × (answered : List Line) × IsUnderway files after answers w bytes more answered × HoldsNoFurtherLine bytes more
  none_more None none given' = (lines, news, record { read = given'.0; short = was.short; answered = was.answered; held = was.held }, given'.1)
  none_more (Some line) none given' = cc

  pub line_wrong : (refuses : Line → Why → Type 0) (fault : TextFault) → ((k : ℕ) → fault ≡ SyntaxAt k → IsSyntaxAt bytes k × StandsFor after bytes lines) → ((k : ℕ) → fault ≡ SyntaxAt k → after.wrong ≡ Some k) → StopsAt answers refuses (stop_of fault) files w bytes
  line_wrong refuses TextMemory wrong is = record {
    lines = lines;
    news = news;
    given = given r bytes lines was.read;
    answered = was.answered;
    text = log_text w.first news;
    prefix = ([], append-nil (log_text w.first news));
    file = was.held.file;
  }
  line_wrong refuses (SyntaxAt k) wrong is =
      let both = wrong k refl in
      record {
        lines = lines;
        news = news;
        given = given r bytes lines was.read;
        answered = was.answered;
        held = was.held;
        refused = inl (refl, both.0, before_wrong bytes lines k (given r bytes lines was.read) both.0 (right_upto after bytes lines k both.1 (is k refl)));
      }

  -- the line that was given was rewritten, or not
  pub line_rewritten : (now : Option Files) (later : List Line → List Line → Type 0) (refuses : Line → Why → Type 0) (v : WriterValue) (line : Line) (result : Result Bool LogStop) → StandsFor after bytes (lines ++ line ∷ [])
      → RewritesLine now later refuses v bytes lines news line result → RewritesNext now after later refuses v bytes result
  line_rewritten now later refuses v line (Ok true) stands done =
      (lines ++ line ∷ [], news ++ done.0 ∷ [], record { read = stands; short = was.short; answered = done.1; held = done.2 })
  line_rewritten now later refuses v line (Ok false) stands done = absurd done
  line_rewritten now later refuses v line (Err stop) stands done = done
