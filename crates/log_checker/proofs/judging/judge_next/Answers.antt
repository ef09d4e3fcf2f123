use Rattle.std.proofs.Common.{◌≡◌, Err, None, ap, sym, subst}
use Rattle.log_checker.specs.Judging.{IsWholeReason}
use Rattle.log_checker.specs.declared.fault.CheckFault.{CheckFault}
use Rattle.log_checker.proofs.Answering.{not_wrong, gives_line, reason_is, smaller, line_formed, syntax_refused, line_is_refused, line_taken}
use Rattle.log_checker.proofs.judging.judge_next.Goals as goal

pub returns-in-Err-Syntax-clause-reading : goal.returns-in-Err-Syntax-clause-reading
returns-in-Err-Syntax-clause-reading c =
    let stands = c.requires.reading in
    (stands.0, stands.1, (c.in-Err-Syntax.ensures.syntax c.in-Err-Syntax.line (ap (λ f. Err f) c.in-Err-Syntax.field-0-is) stands.0 stands.1 stands.2).1)

pub returns-in-Err-Syntax-clause-judged : goal.returns-in-Err-Syntax-clause-judged
returns-in-Err-Syntax-clause-judged c = λ bytes lines underway.
    let is = ap (λ f. Err f) c.in-Err-Syntax.field-0-is in
    let wrong = c.in-Err-Syntax.ensures.syntax c.in-Err-Syntax.line is bytes lines underway.read in
    subst (λ (e : CheckFault). IsWholeReason c.args.problem.now c.args.vectors.now bytes e) (sym c.refusal.ensures)
    (syntax_refused c.args.problem.now c.args.vectors.now c.args.reader.now c.next_line.new.self c.args.state.now bytes lines c.in-Err-Syntax.line underway wrong.0 wrong.1 (c.in-Err-Syntax.ensures.wrong c.in-Err-Syntax.line is))

pub judge_owned-requires-clause-formed : goal.judge_owned-requires-clause-formed
judge_owned-requires-clause-formed c =
    let stands = c.requires.reading in
    line_formed c.next_line.new.self stands.0 stands.1 c.in-Ok-Some.line (gives_line c.next_line.new.self stands.0 stands.1 c.in-Ok-Some.field-0 c.in-Ok-Some.line c.in-Ok-Some.field-0-is (c.in-Ok-Some.ensures.next stands.0 stands.1 stands.2))

pub returns-in-Ok-clause-smaller : goal.returns-in-Ok-clause-smaller
returns-in-Ok-clause-smaller c = λ taken.
    let stands = c.requires.reading in
    let right : c.args.reader.now.wrong ≡ None = not_wrong c.args.reader.now.wrong (λ k e. let again = c.in-Ok-Some.ensures.again k e in cc) in
    smaller c.args.reader.now c.next_line.new.self stands.0 stands.1 c.in-Ok-Some.line right stands.2
    (gives_line c.next_line.new.self stands.0 stands.1 c.in-Ok-Some.field-0 c.in-Ok-Some.line c.in-Ok-Some.field-0-is (c.in-Ok-Some.ensures.next stands.0 stands.1 stands.2))

pub returns-in-Ok-clause-judged : goal.returns-in-Ok-clause-judged
returns-in-Ok-clause-judged c = λ bytes lines underway. (
  c.in-Ok-Some.line,
  line_taken c.args.problem.now c.args.vectors.now c.args.reader.now c.next_line.new.self c.args.state.now c.judge_owned.new.state bytes lines c.in-Ok-Some.line underway
      (gives_line c.next_line.new.self bytes lines c.in-Ok-Some.field-0 c.in-Ok-Some.line c.in-Ok-Some.field-0-is (c.in-Ok-Some.ensures.next bytes lines underway.read))
      c.in-Ok.ensures.next c.in-Ok.ensures.covered,
)

pub returns-in-Err-Refused-clause-judged : goal.returns-in-Err-Refused-clause-judged
returns-in-Err-Refused-clause-judged c = λ bytes lines underway.
    subst (λ (e : CheckFault). IsWholeReason c.args.problem.now c.args.vectors.now bytes e) (sym c.refusal-in-Err-Refused.ensures)
    (line_is_refused c.args.problem.now c.args.vectors.now c.args.reader.now c.next_line.new.self c.args.state.now bytes lines c.in-Ok-Some.line c.next_number-number.result c.in-Err-Refused.why underway
    (gives_line c.next_line.new.self bytes lines c.in-Ok-Some.field-0 c.in-Ok-Some.line c.in-Ok-Some.field-0-is (c.in-Ok-Some.ensures.next bytes lines underway.read))
    (reason_is c.args.problem.now c.args.vectors.now c.args.state.now c.in-Ok-Some.line c.in-Err-Refused.field-0 c.in-Err-Refused.why c.in-Err-Refused.field-0-is c.in-Err-Refused.ensures.refused)
    c.next_number-number.ensures)
