use Rattle.std.proofs.Common.{◌≡◌, ℕ, List, map, sym, ap, ◌∙◌, subst, ℤ, pos, ◌-ℤ◌, neg_ℤ, to_z, of_z, Result, Ok, Err, arith}
use Rattle.std.specs.Prelude.{IfOk}
use Rattle.std.specs.Int.{w128}
use Rattle.std.proofs.lemmas.Int.{ints}
use Rattle.scut_base.specs.Literal.{Literal}
use Rattle.instance.specs.Shape.{terms_magnitude, TermsUpTo}
use Rattle.pb_lin.specs.Constraint.{ConstraintValue}
use Rattle.instance_normal.specs.NormalForm.{Sum, IsRowOf}
use Rattle.instance_normal.specs.Fitting.{Fits}
use Rattle.instance_normal.proofs.Sizes.{negated_magnitude, negated_upto}
use Rattle.instance_normal.proofs.rows.most_row.Goals as goal

abbrev turned : List (ℤ × Literal) → List (ℤ × Literal)
turned terms = map (λ t. (neg_ℤ t.0, t.1)) terms

pub sum_row-requires-clause-small : goal.sum_row-requires-clause-small
sum_row-requires-clause-small c =
    let terms : c.as_slice-2.result.now ≡ turned c.args.row.now.terms = c.as_slice-2.ensures.value ∙ c.in_ok-terms.ensures.value ∙ ap turned c.as_slice.ensures in
    omega (arith, ints, ap terms_magnitude terms, negated_magnitude c.args.row.now.terms, c.from.ensures)

moved : {E : Type 0} (r : Result ConstraintValue E) (ts us : List (ℤ × Literal)) (x y : ℤ) → ts ≡ us → x ≡ y → IfOk r (IsRowOf (Sum ts x)) → IfOk r (IsRowOf (Sum us y))
moved r ts us x y terms bound is = subst (λ (vs : List (ℤ × Literal)). IfOk r (IsRowOf (Sum vs y))) terms (subst (λ (z : ℤ). IfOk r (IsRowOf (Sum ts z))) bound is)

pub returns-clause-row : goal.returns-clause-row
returns-clause-row c =
    let terms : c.as_slice-2.result.now ≡ turned c.args.row.now.terms = c.as_slice-2.ensures.value ∙ c.in_ok-terms.ensures.value ∙ ap turned c.as_slice.ensures in
    let bound : to_z w128 (of_z w128 (pos 0 -ℤ to_z w128 (of_z w128 c.from.result))) ≡ neg_ℤ c.args.row.now.bound = omega (arith, ints, c.from.ensures) in
    moved c.sum_row.result c.as_slice-2.result.now (turned c.args.row.now.terms) _ (neg_ℤ c.args.row.now.bound) terms bound c.sum_row.ensures.row

kept : {E : Type 0} (r : Result ConstraintValue E) (ts us : List (ℤ × Literal)) → ts ≡ turned us → IfOk r (λ c. (n : ℕ) → TermsUpTo n ts → Fits n c) → IfOk r (λ c. (n : ℕ) → TermsUpTo n us → Fits n c)
kept (Ok c) ts us terms fits = λ n upto. fits n (subst (TermsUpTo n) (sym terms) (negated_upto n us upto))
kept (Err e) ts us terms fits = fits

pub returns-clause-fits : goal.returns-clause-fits
returns-clause-fits c = kept c.sum_row.result c.as_slice-2.result.now c.args.row.now.terms (c.as_slice-2.ensures.value ∙ c.in_ok-terms.ensures.value ∙ ap turned c.as_slice.ensures) c.sum_row.ensures.fits
