use Rattle.std.proofs.Common.{ℕ, ℤ, arith, ap, subst, sym}
use Rattle.std.proofs.lemmas.Int.{ints}
use Rattle.std.proofs.lemmas.List.Elements.{All-nil}
use Rattle.scut_base.specs.Literal.{Literal}
use Rattle.pb_lin.specs.Constraint.{ConstraintValue, IsVariable, TermsUpTo, UpTo}
use Rattle.pb_lin.specs.NormalForm.{sum_value}
use Rattle.pb_lin.proofs.Excess.{HasExcess-same}
use Rattle.pb_lin.proofs.Variables.{normal_form_upto}
use Rattle.proof_laws.specs.Substituted.{IsGoalOf, not_risen}
use Rattle.proof_rules.specs.Verdict.{ImagesUpTo, LiteralsUpTo}
use Rattle.proof_rules.proofs.Falls.{both_if_ok}
use Rattle.proof_rules.proofs.goals.not_risen.Goals as goal

pub returns-clause-goal : goal.returns-clause-goal
returns-clause-goal c =
    both_if_ok c.normal_form.result _ _ (λ (g : ConstraintValue). (i : ℕ) → IsGoalOf g (not_risen c.args.w.now i c.args.row.now)) c.normal_form.ensures.normal c.normal_form.ensures.form
    (λ g normal form i. (
      normal,
      HasExcess-same g _ (not_risen c.args.w.now i c.args.row.now).excess form (λ a.
          let fall = c.in_ok-met.ensures.value a in
          let low = c.in_ok-met.ensures.met in
          let here = ap (sum_value a) c.deref.ensures.value in
          let empty = ap (sum_value a) c.new-terms.ensures.items in
          omega (arith, ints)),
    ))

pub returns-clause-variables : goal.returns-clause-variables
returns-clause-variables c =
    both_if_ok c.normal_form.result _ _ (λ (g : ConstraintValue). (n : ℕ) → TermsUpTo n c.args.row.now.terms → ImagesUpTo n c.args.w.now → UpTo n g) c.normal_form.ensures.normal c.normal_form.ensures.form
    (λ g normal form n upto images. normal_form_upto g c.deref.result.now _ n normal form (subst (LiteralsUpTo n) (sym c.deref.ensures.value)
    (c.in_ok-met.ensures.variables n upto images (subst (LiteralsUpTo n) (sym c.new-terms.ensures.items) (All-nil (λ (t : ℤ × Literal). IsVariable n t.1.var))))))
