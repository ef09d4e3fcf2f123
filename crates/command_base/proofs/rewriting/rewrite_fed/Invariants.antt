use Rattle.std.specs.Prelude.{◌≡◌, ℕ, List}
use Rattle.proof_laws.specs.declared.line.Line.{Line}
use Rattle.log_checker.specs.Judging.{left}
use Rattle.command_base.specs.RewrittenSoFar.{IsRewriting, IsUnderway, WritesOnly}
use Rattle.command_base.proofs.rewriting.rewrite_fed.Given as goal

abbrev pub invariant-lines : goal.invariant-lines
invariant-lines g l =
    let world = g.H.Shelf.world in
    let by = g.T.AnswersLine in
    record {
      subject : by.subject l.answerer ≡ by.subject l.initial.answerer;
      rewriting : IsRewriting (world l.shelf).files l.reader (by.answers l.answerer) l.writer;
      rewritten : (bytes : List ℕ) (lines news : List Line) → IsUnderway (world l.initial.shelf).files l.initial.reader (by.answers l.initial.answerer) l.initial.writer bytes lines news
          → (more : List Line) × (answered : List Line) × IsUnderway (world l.shelf).files l.reader (by.answers l.answerer) l.writer bytes more answered;
      beside : WritesOnly l.initial.writer l.writer (world l.initial.shelf) (world l.shelf);
    }

abbrev pub decreases-lines : goal.decreases-lines
decreases-lines g l = left l.reader
