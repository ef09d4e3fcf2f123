use Rattle.std.proofs.Common.{◌≡◌, Err, List, None, ap, subst, sym}
use Rattle.proof_laws.specs.declared.line.Line.{Line}
use Rattle.log_checker.specs.Judging.{IsUnderway}
use Rattle.log_checker.proofs.Answering.{gives_line, line_formed, line_is_refused, line_taken, not_wrong, reason_is, smaller}
use Rattle.command_base.specs.declared.log_file.LineFault.{LineFault}
use Rattle.command_trim.specs.Keeping.{IsWholeReason, kept_by}
use Rattle.command_trim.proofs.Keeps.{next_reason}
use Rattle.command_trim.proofs.keeping.Keeper.keep_next.Goals as goal

pub returns-in-Err-clause-kept : goal.returns-in-Err-clause-kept
returns-in-Err-clause-kept c = λ bytes keeping.
    let k = c.args.self.now in
    subst (λ (fault : LineFault). IsWholeReason (kept_by k) bytes fault) (sym c.fault_of.ensures)
    (next_reason k c.next_line.new.self bytes c.in-Err.fault keeping
    (λ n is. c.in-Err.ensures.syntax n (ap (λ f. Err f) is) bytes k.lines keeping.underway.read)
    (λ n is. c.in-Err.ensures.wrong n (ap (λ f. Err f) is)))

pub judge_line-requires-clause-formed : goal.judge_line-requires-clause-formed
judge_line-requires-clause-formed c =
    let k = c.args.self.now in
    let some = c.requires in
    line_formed c.next_line.new.self some.0 k.lines c.in-Ok-Some.line
    (gives_line c.next_line.new.self some.0 k.lines c.in-Ok-Some.field-0 c.in-Ok-Some.line c.in-Ok-Some.field-0-is (c.in-Ok-Some.ensures.next some.0 k.lines some.1.underway.read))

pub returns-in-Err-Refused-clause-kept : goal.returns-in-Err-Refused-clause-kept
returns-in-Err-Refused-clause-kept c = λ bytes keeping.
    let k = c.args.self.now in
    line_is_refused k.problem.now k.vectors.now k.reader c.next_line.new.self k.state bytes k.lines c.in-Ok-Some.line c.next_number-number.result c.in-Err-Refused.why keeping.underway
    (gives_line c.next_line.new.self bytes k.lines c.in-Ok-Some.field-0 c.in-Ok-Some.line c.in-Ok-Some.field-0-is (c.in-Ok-Some.ensures.next bytes k.lines keeping.underway.read))
    (reason_is k.problem.now k.vectors.now k.state c.in-Ok-Some.line c.in-Err-Refused.field-0 c.in-Err-Refused.why c.in-Err-Refused.field-0-is c.in-Err-Refused.ensures.refused)
    c.next_number-number.ensures

pub returns-in-Ok-push-clause-kept : goal.returns-in-Ok-push-clause-kept
returns-in-Ok-push-clause-kept c = λ bytes keeping.
    let k = c.args.self.now in
    record {
      underway = subst (λ (lines : List Line). IsUnderway k.problem.now k.vectors.now c.next_line.new.self c.judge_line.new.state bytes lines) (sym c.in-Ok-push.ensures.ok)
          (line_taken k.problem.now k.vectors.now k.reader c.next_line.new.self k.state c.judge_line.new.state bytes k.lines c.in-Ok-Some.line keeping.underway
          (gives_line c.next_line.new.self bytes k.lines c.in-Ok-Some.field-0 c.in-Ok-Some.line c.in-Ok-Some.field-0-is (c.in-Ok-Some.ensures.next bytes k.lines keeping.underway.read))
          c.in-Ok.ensures.next c.in-Ok.ensures.covered);
      fits = c.judge_line.ensures.fits;
    }

pub returns-in-Ok-push-clause-smaller : goal.returns-in-Ok-push-clause-smaller
returns-in-Ok-push-clause-smaller c = λ taken.
    let k = c.args.self.now in
    let some = c.requires in
    let right : k.reader.wrong ≡ None = not_wrong k.reader.wrong (λ n e. let again = c.in-Ok-Some.ensures.again n e in cc) in
    smaller k.reader c.next_line.new.self some.0 k.lines c.in-Ok-Some.line right some.1.underway.read
    (gives_line c.next_line.new.self some.0 k.lines c.in-Ok-Some.field-0 c.in-Ok-Some.line c.in-Ok-Some.field-0-is (c.in-Ok-Some.ensures.next some.0 k.lines some.1.underway.read))
