use Rattle.std.specs.Prelude.{ℕ, List}
use Rattle.proof_laws.specs.State.{Fits}
use Rattle.proof_laws.specs.declared.line.Line.{Line}
use Rattle.log_checker.specs.Judging.{IsReading, IsUnderway, left}
use Rattle.log_checker.proofs.judging.judge_lines.Given as goal

abbrev pub invariant-lines : goal.invariant-lines
invariant-lines l = record {
  fits : Fits l.problem l.state;
  reading : IsReading l.reader;
  judged : (bytes : List ℕ) (lines : List Line) → IsUnderway l.problem l.vectors l.initial.reader l.initial.state bytes lines
      → (more : List Line) × IsUnderway l.problem l.vectors l.reader l.state bytes more;
}

abbrev pub decreases-lines : goal.decreases-lines
decreases-lines l = left l.reader
