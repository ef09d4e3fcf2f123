-- Objectives in their own terms.
use Rattle.std.proofs.Common.{◌≡◌, ℕ, ◌≤◌, List, [], ◌∷◌, length, sym, subst, arith}
use Rattle.std.specs.List.{All, AllZip}
use Rattle.std.proofs.lemmas.List.Elements.{All-cons, All-head, All-nil, All-tail}
use Rattle.std.proofs.lemmas.Slice.Zip.{AllZip-long}
use Rattle.scut_base.specs.Literal.{Literal}
use Rattle.pb_lin.specs.Constraint.{TermsUpTo}
use Rattle.pb_lin.specs.CostRow.{CostRowValue, IsCostRow}
use Rattle.pb_lin.specs.Problem.{ProblemValue, IsProblem}
use Rattle.proof_laws.specs.State.{StateValue}
use Rattle.proof_laws.specs.declared.line.Line.{Line}
use Rattle.proof_rules.specs.Recording.{Snapshot}
use Rattle.sum_outputs.specs.Adding.{IsReached}
use Rattle.sum_outputs.specs.Totals.{AreWeights}
use Rattle.totalizer.specs.Keeping.{OwnTermsServe}
use Rattle.totalizer.specs.Reforming.{IsOwnReform, IsReformOf}
use Rattle.totalizer.specs.declared.reform.Reform.{Reform}
use Rattle.search_base.specs.CostBounds.{AreReforms}

row_weights : (terms : List (Literal × ℕ)) (row : CostRowValue) → terms ≡ row.terms →
    IsCostRow row.terms row.offset → AreWeights terms
row_weights terms row is weights = subst AreWeights (sym is) (record {
  positive = weights.positive;
  from_one = weights.from_one;
  apart = weights.distinct;
  small = weights.small;
})

pub own_weights : (rows : List CostRowValue) (reforms : List Reform) → All (λ r. IsCostRow r.terms r.offset) rows →
    AllZip IsOwnReform rows reforms → All (λ r. AreWeights r.terms) reforms
own_weights [] [] weights own = All-nil (λ r. AreWeights r.terms)
own_weights [] (r ∷ reforms) weights own = absurd own
own_weights (row ∷ rows) [] weights own = absurd own
own_weights (row ∷ rows) (r ∷ reforms) weights own =
    All-cons (λ q. AreWeights q.terms) r reforms
    (row_weights r.terms row own.0.1 (All-head (λ q. IsCostRow q.terms q.offset) row rows weights))
    (own_weights rows reforms (All-tail (λ q. IsCostRow q.terms q.offset) row rows weights) own.1)

upto_more : (m n : ℕ) (terms : List (Literal × ℕ)) → m ≤ n → TermsUpTo m terms → TermsUpTo n terms
upto_more m n terms le upto k d short = let most = upto k d short in omega arith

serve : OwnTermsServe → (p : ProblemValue) (lines : List Line) (s : StateValue) (n : ℕ) (rows : List CostRowValue)
    (reforms : List Reform) → n ≤ s.vars → All (λ r. IsCostRow r.terms r.offset) rows →
    All (λ r. TermsUpTo n r.terms) rows → AllZip IsOwnReform rows reforms → AllZip (IsReformOf p lines s) rows reforms
serve law p lines s n [] [] vars weights upto own = tt
serve law p lines s n [] (r ∷ reforms) vars weights upto own = absurd own
serve law p lines s n (row ∷ rows) [] vars weights upto own = absurd own
serve law p lines s n (row ∷ rows) (r ∷ reforms) vars weights upto own = (
  law p lines s row r (All-head (λ q. IsCostRow q.terms q.offset) row rows weights)
      (upto_more n s.vars row.terms vars (All-head (λ q. TermsUpTo n q.terms) row rows upto)) own.0,
  serve law p lines s n rows reforms vars (All-tail (λ q. IsCostRow q.terms q.offset) row rows weights)
      (All-tail (λ q. TermsUpTo n q.terms) row rows upto) own.1,
)

-- they serve over any lines of the problem
pub own_serve : OwnTermsServe → (p : ProblemValue) (reforms : List Reform) → IsProblem p →
    AllZip IsOwnReform p.costs reforms → (a : Snapshot) → a.problem ≡ p →
    ((s : StateValue) → IsReached a s → p.vars ≤ s.vars) → AreReforms a reforms
own_serve law p reforms problem own a same vars = record {
  rows = subst (λ (q : ProblemValue). All (λ r. IsCostRow r.terms r.offset) q.costs) (sym same) problem.cost_rows;
  count = subst (λ (q : ProblemValue). length reforms ≡ length q.costs) (sym same)
      (AllZip-long IsOwnReform p.costs reforms own);
  each = λ s reached. subst (λ (q : ProblemValue). AllZip (IsReformOf a.problem a.lines s) q.costs reforms) (sym same)
      (serve law a.problem a.lines s p.vars p.costs reforms (vars s reached) problem.cost_rows problem.cost_variables
      own);
}
