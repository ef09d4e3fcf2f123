-- An objective in its own terms, to be boosted.
use Rattle.std.proofs.Common.{◌≡◌, ℕ, ◌<◌, length, get_or, sym, ap, subst, ◌∙◌, arith, pos, ℤ, ◌+ℤ◌}
use Rattle.pb_lin.specs.Constraint.{TermsUpTo, total}
use Rattle.pb_lin.specs.CostRow.{CostRowValue, IsCostRow}
use Rattle.pb_lin.specs.Problem.{ProblemValue, IsProblem}
use Rattle.cutting_planes.proofs.Terms.{Terms}
use Rattle.proof_rules.specs.Recording.{Snapshot}
use Rattle.sum_outputs.proofs.LaterStates.{replay_vars}
use Rattle.totalizer.specs.Reforming.{IsOwnReform}
use Rattle.totalizer.specs.declared.reform.Reform.{Reform}
use Rattle.totalizer.proofs.OwnReforms.{own_terms_serve_law}
use Rattle.core_boosting.specs.Exchanging.{IsExactly}

pub own_exactly : (a : Snapshot) (row : CostRowValue) (r : Reform) → IsCostRow row.terms row.offset → TermsUpTo a.problem.vars row.terms → IsOwnReform row r → IsExactly a row r
own_exactly a row r is_row upto own = record {
  is_row = is_row;
  greatest = ap (λ (z : ℤ). z +ℤ pos (total r.terms)) own.0 ∙ ap (λ (ts : Terms). row.offset +ℤ pos (total ts)) own.1;
  reform = λ s reached. own_terms_serve_law a.problem a.lines s row r is_row
      (λ k d short. let here = upto k d short in let more = replay_vars a.problem a.lines s reached in omega arith) own;
}

-- of a row of the problem
pub own_row : (a : Snapshot) (p : ProblemValue) (k : ℕ) (d : CostRowValue) (r : Reform) → a.problem ≡ p → IsProblem p → k < length p.costs →
    IsOwnReform (get_or p.costs k d) r → IsExactly a (get_or p.costs k d) r
own_row a p k d r same problem short own =
    own_exactly a (get_or p.costs k d) r (problem.cost_rows k d short)
    (subst (λ (q : ProblemValue). TermsUpTo q.vars (get_or p.costs k d).terms) (sym same) (problem.cost_variables k d short)) own
