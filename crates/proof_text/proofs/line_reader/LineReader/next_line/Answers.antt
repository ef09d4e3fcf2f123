use Rattle.std.proofs.Common.{ℕ, List, subst, sym, ap, ◌∙◌}
use Rattle.proof_text.specs.Reading.{ReaderValue, StandsFor}
use Rattle.proof_text.proofs.Readings.{reader}
use Rattle.proof_text.proofs.line_reader.LineReader.next_line.Goals as goal

pub returns-in-Some-line_len-clause-syntax : goal.returns-in-Some-line_len-clause-syntax
returns-in-Some-line_len-clause-syntax c k e bytes lines stands =
    let s = c.self.inside in
    let same = ap (λ (p : List ℕ). reader s.given s.begun p s.wrong) c.line_len.ensures.same ∙ c.self.view_is in
    c.take_line.ensures.syntax k e bytes lines (subst (λ (r : ReaderValue). StandsFor r bytes lines) (sym same) stands)
