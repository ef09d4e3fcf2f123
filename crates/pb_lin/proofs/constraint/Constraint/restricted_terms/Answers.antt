use Rattle.std.proofs.Common.{ℕ, not, List, arith, ap, sym, subst, ◌∙◌}
use Rattle.scut_base.specs.Literal.{Literal}
use Rattle.pb_lin.specs.Constraint.{IsNormal, total}
use Rattle.pb_lin.specs.Restriction.{is_set}
use Rattle.pb_lin.proofs.Truths.{IsNormal-restriction}
use Rattle.pb_lin.proofs.constraint.Constraint.restricted_terms.Goals as goal

pub terms_left-requires-clause-small : goal.terms_left-requires-clause-small
terms_left-requires-clause-small c =
    let same = ap total (c.as_slice.ensures ∙ c.in_ok-terms.ensures.value) in
    let small = c.in_ok-terms.ensures.normal.small in
    omega arith

pub from_terms-requires : goal.from_terms-requires
from_terms-requires c =
    let normal = subst (λ (ts : List (Literal × ℕ)). IsNormal ts c.args.self.now.degree) (sym (c.as_slice.ensures ∙ c.in_ok-terms.ensures.value)) c.degree.ensures.normal in
    subst (λ (ts : List (Literal × ℕ)). IsNormal ts c.saturating_sub-degree.result) (sym (c.as_slice-2.ensures ∙ c.in_ok-kept.ensures.kept))
    (IsNormal-restriction c.as_slice.result.now c.args.self.now.degree c.saturating_sub-degree.result (λ t. not (is_set c.args.truths.now t.0.var)) normal (omega (arith, c.degree.ensures.value)))
