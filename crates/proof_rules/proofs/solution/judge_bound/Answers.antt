use Rattle.std.proofs.Common.{◌≡◌, true, sym, ap, subst, ◌∙◌}
use Rattle.pb_lin.specs.Constraint.{ConstraintValue, Covers}
use Rattle.pb_lin.specs.Restriction.{restriction}
use Rattle.proof_rules.proofs.Cuts.{line_bounds, line_bounds_not}
use Rattle.proof_rules.proofs.solution.judge_bound.Goals as goal

pub returns-then-covers : goal.returns-then-covers
returns-then-covers c = λ cut same.
    let line = c.in-Some.line in
    let left = c.in_ok-restricted.field-0 in
    let restricted = c.in_ok-restricted.ensures ∙ ap (λ (b : ConstraintValue). restriction b c.args.truths.now) (c.deref.ensures ∙ c.in_ok-whole.ensures) in
    let covers = subst (λ (l : ConstraintValue). Covers l left) (c.deref-2.ensures ∙ c.in_ok-line-2.ensures)
    (subst (λ (b : ConstraintValue). Covers c.deref-2.result.now b) (c.deref-3.ensures ∙ c.in_ok-bound.ensures) (c.covers.ensures.0 c.if-covers.true)) in
    line_bounds c.args.lines.now cut c.args.truths.now c.args.a.now c.args.objective c.args.row.now c.args.id same line c.in_ok-bound_of.field-0 left (sym c.in-Some.is ∙ c.in_ok-line.ensures) c.in_ok-bound_of.ensures.terms c.in_ok-bound_of.ensures.degree restricted covers

pub returns : goal.returns
returns c = λ cut same.
    let line = c.in-Some.line in
    let left = c.in_ok-restricted.field-0 in
    let restricted = c.in_ok-restricted.ensures ∙ ap (λ (b : ConstraintValue). restriction b c.args.truths.now) (c.deref.ensures ∙ c.in_ok-whole.ensures) in
    line_bounds_not c.args.lines.now cut c.args.truths.now c.args.a.now c.args.objective c.args.row.now c.args.id same line c.in_ok-bound_of.field-0 left (sym c.in-Some.is ∙ c.in_ok-line.ensures) c.in_ok-bound_of.ensures.terms c.in_ok-bound_of.ensures.degree restricted
    (λ covers.
    let held = subst (λ (l : ConstraintValue). Covers l c.deref-3.result.now) (sym (c.deref-2.ensures ∙ c.in_ok-line-2.ensures))
    (subst (λ (b : ConstraintValue). Covers line b) (sym (c.deref-3.ensures ∙ c.in_ok-bound.ensures)) covers) in
    let passes : c.covers.result ≡ true = c.covers.ensures.1 held in cc)
