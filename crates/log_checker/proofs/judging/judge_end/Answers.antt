use Rattle.std.proofs.Common.{subst, sym, ap, refl, ◌∙◌, Err}
use Rattle.log_checker.specs.Judging.{IsLogReason}
use Rattle.log_checker.specs.declared.fault.CheckFault.{CheckFault}
use Rattle.log_checker.proofs.Answering.{end_syntax, end_missing, end_reached}
use Rattle.log_checker.proofs.judging.judge_end.Goals as goal

pub returns-in-Err-Syntax-clause-judged : goal.returns-in-Err-Syntax-clause-judged
returns-in-Err-Syntax-clause-judged c = λ p vectors bytes lines underway held.
    subst (λ (e : CheckFault). IsLogReason p vectors bytes e) (sym c.refusal.ensures)
    (end_syntax p vectors c.args.reader.now c.args.state.now bytes lines c.in-Err-Syntax.line underway held
    (c.in-Err-Syntax.ensures.syntax c.in-Err-Syntax.line (ap (λ f. Err f) c.in-Err-Syntax.field-0-is) bytes lines underway.read))

pub returns-then-not-ended-clause-judged : goal.returns-then-not-ended-clause-judged
returns-then-not-ended-clause-judged c = λ p vectors bytes lines underway held.
    subst (λ (e : CheckFault). IsLogReason p vectors bytes e) (sym c.refusal-then-not-ended.ensures)
    (end_missing p vectors c.args.reader.now c.args.state.now bytes lines c.next_number.result underway held
    (c.in-Ok.ensures.whole refl bytes lines underway.read) (sym c.ended.ensures ∙ c.if-not-ended.true) c.next_number.ensures)

pub returns-clause-judged : goal.returns-clause-judged
returns-clause-judged c = λ p vectors bytes lines underway held.
    end_reached p vectors c.args.reader.now c.args.state.now bytes lines underway held
    (c.in-Ok.ensures.whole refl bytes lines underway.read) (sym c.ended.ensures ∙ c.if-not-ended.false)
