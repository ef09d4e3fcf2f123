use Rattle.std.proofs.Common.{◌≡◌, ◌∙◌, None, ap, sym, subst, rules}
use Rattle.std.proofs.lemmas.Result.{err_from_is_err_and}
use Rattle.log_checker.specs.Checking.{CheckerValue, StandsFor}
use Rattle.log_checker.specs.Judging.{HasEnded, JudgesEnd}
use Rattle.log_checker.proofs.Answering.{nothing_earlier, earlier_judged, settled_judged, judged_ended}
use Rattle.log_checker.proofs.checker.Checker.conclusion.Goals as goal

pub returns-in_err-earlier-clause-judged : goal.returns-in_err-earlier-clause-judged
returns-in_err-earlier-clause-judged c = λ bytes stands.
    let p = err_from_is_err_and c.from_residual.result c.from_residual.ensures.1 in
    let now : CheckerValue = c.args.self.now in
    rw (p.1, p.2) (earlier_judged now.refused now.failed now bytes c.in_err-earlier.field-0.0 (sym c.in_err-earlier.ensures) stands)

pub returns-then-self-clause-judged : goal.returns-then-self-clause-judged
returns-then-self-clause-judged c = λ bytes stands.
    let now : CheckerValue = c.args.self.now in
    let settled : HasEnded c.args.self.now.reader c.args.self.now.state = search rules in
    settled_judged now bytes (nothing_earlier now.refused now.failed (sym c.in_ok-earlier.ensures)).0 settled stands

pub returns-clause-judged : goal.returns-clause-judged
returns-clause-judged c = λ bytes stands.
    let mine : CheckerValue = record { problem = c.self.inside.problem; vectors = c.self.inside.vectors; reader = c.self.inside.reader; state = c.self.inside.state; refused = c.self.inside.refused; failed = c.self.inside.failed; finished = c.self.inside.finished } in
    let none : c.self.inside.refused ≡ None = ap (λ (d : CheckerValue). d.refused) c.self.view_is ∙ (nothing_earlier c.args.self.now.refused c.args.self.now.failed (sym c.in_ok-earlier.ensures)).0 in
    subst (λ (d : CheckerValue). JudgesEnd d.problem d.vectors bytes c.judge_end.result) c.self.view_is
    (judged_ended mine bytes c.judge_end.result none (c.judge_end.ensures.judged mine.problem mine.vectors bytes) (subst (λ (d : CheckerValue). StandsFor d bytes) (sym c.self.view_is) stands))
