-- An objective's own terms and offset, for which no line is named.
use Rattle.std.proofs.Common.{◌≡◌, inl, List, [], refl, ap, sym, subst, ◌∙◌, ℕ, arith}
use Rattle.std.specs.Prelude.{ℤ}
use Rattle.std.proofs.lemmas.Int.{ints}
use Rattle.pb_lin.specs.Constraint.{TermsUpTo}
use Rattle.pb_lin.specs.CostRow.{CostRowValue, IsCostRow}
use Rattle.pb_lin.specs.Problem.{ProblemValue}
use Rattle.cutting_planes.proofs.Terms.{Terms}
use Rattle.proof_laws.specs.State.{StateValue}
use Rattle.proof_laws.specs.declared.line.Line.{Line}
use Rattle.totalizer.specs.declared.reform.Reform.{Reform}
use Rattle.totalizer.specs.Reforming.{IsReformOf}
use Rattle.totalizer.specs.Keeping.{OwnTermsServe}

own_serves : (p : ProblemValue) (lines : List Line) (s : StateValue) (row : CostRowValue) (upper : ℕ) →
    IsCostRow row.terms row.offset → TermsUpTo s.vars row.terms →
    IsReformOf p lines s row (record { offset = row.offset; terms = row.terms; lower_line = 0; upper_line = upper })
own_serves p lines s row upper is within = record {
  weights = record { positive = is.positive; from_one = is.from_one; apart = is.distinct; small = is.small };
  variables = λ k d short. (is.from_one k d short, within k d short);
  offset = omega (arith, ints);
  small = is.greatest;
  own = inl refl;
  lower = (record { terms = []; degree = 0 }, refl, λ x. omega (arith, ints));
  upper = λ x rows hold. omega (arith, ints);
}

pub own_terms_serve_law : OwnTermsServe
own_terms_serve_law p lines s row r is within own =
    let same : r ≡ record { offset = row.offset; terms = row.terms; lower_line = 0; upper_line = r.upper_line } =
    ap (λ (n : ℤ). record { offset = n; terms = r.terms; lower_line = r.lower_line; upper_line = r.upper_line }) own.0
    ∙ ap (λ (ts : Terms). record { offset = row.offset; terms = ts; lower_line = r.lower_line; upper_line = r.upper_line }) own.1
    ∙ ap (λ (id : ℕ). record { offset = row.offset; terms = row.terms; lower_line = id; upper_line = r.upper_line }) own.2 in
    subst (λ (q : Reform). IsReformOf p lines s row q) (sym same) (own_serves p lines s row r.upper_line is within)
