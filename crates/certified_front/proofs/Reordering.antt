-- An objective whose terms stand in another order serves wherever the given one does.
use Rattle.std.proofs.Common.{◌≡◌, ◌≢◌, ◌<◌, ◌^◌, ℕ, Bool, List, [], ◌∷◌, ap, sym, subst, ◌∙◌}
use Rattle.std.specs.Prelude.{ℤ, pos, ◌+ℤ◌, ◌-ℤ◌, ◌≤ℤ◌, ◌<ℤ◌}
use Rattle.std.specs.List.{AllZip}
use Rattle.std.specs.List.Sorted.{IsPermutation}
use Rattle.std.proofs.lemmas.List.Elements.{length_all_zip}
use Rattle.std.proofs.lemmas.List.Sorted.{All-permutation, sum_by-IsPermutation}
use Rattle.scut_base.specs.Literal.{Literal}
use Rattle.scut_base.proofs.Lists.{AllPairs-permutation}
use Rattle.pb_lin.specs.Constraint.{IsVariable, term_value, total, value}
use Rattle.pb_lin.specs.CostRow.{CostRowValue, row_cost}
use Rattle.pb_lin.specs.Problem.{ProblemValue}
use Rattle.proof_laws.specs.State.{StateValue}
use Rattle.proof_laws.specs.declared.line.Line.{Line}
use Rattle.proof_rules.specs.Recording.{Snapshot}
use Rattle.sum_outputs.specs.Totals.{AreWeights}
use Rattle.totalizer.specs.Reforming.{IsReformOf}
use Rattle.totalizer.specs.declared.reform.Reform.{Reform}
use Rattle.search_base.specs.CostBounds.{AreReforms}
use Rattle.certified_front.specs.Orders.{IsReordered}

abbrev Terms : Type 0
Terms = List (Literal × ℕ)

same_total : (old new : Terms) → IsPermutation old new → total new ≡ total old
same_total old new p = sum_by-IsPermutation (λ t. t.1) old new p

same_value : (old new : Terms) → IsPermutation old new → (x : List Bool) → value x new ≡ value x old
same_value old new p x = sum_by-IsPermutation (term_value x) old new p

reordered_weights : (old new : Terms) → IsPermutation old new → AreWeights old → AreWeights new
reordered_weights old new p w = record {
  positive = All-permutation (λ t. 0 < t.1) old new p w.positive;
  from_one = All-permutation (λ t. 0 < t.0.var) old new p w.from_one;
  apart = AllPairs-permutation (λ s t. s.0.var ≢ t.0.var) (λ s t other same. other (sym same)) old new p w.apart;
  small = subst (λ (n : ℕ). n < 2 ^ 63) (sym (same_total old new p)) w.small;
}

-- the same objective by parts: its terms alone are in another order
reordered_parts : (p : ProblemValue) (lines : List Line) (s : StateValue) (row : CostRowValue) (old : Reform) (new : Terms) (upper : ℕ)
    → IsPermutation old.terms new → IsReformOf p lines s row old
    → IsReformOf p lines s row (record { offset = old.offset; terms = new; lower_line = old.lower_line; upper_line = upper })
reordered_parts p lines s row old new upper same is = record {
  weights = reordered_weights old.terms new same is.weights;
  variables = All-permutation (λ t. IsVariable s.vars t.0.var) old.terms new same is.variables;
  offset = is.offset;
  small = subst (λ (n : ℕ). (old.offset +ℤ pos n) <ℤ pos (2 ^ 63)) (sym (same_total old.terms new same)) is.small;
  own = is.own;
  lower = (is.lower.0, is.lower.1, λ x. is.lower.2 x ∙ ap (λ (n : ℕ). row_cost x row -ℤ (old.offset +ℤ pos n)) (sym (same_value old.terms new same x)));
  upper = λ x rows kept. subst (λ (n : ℕ). row_cost x row ≤ℤ (old.offset +ℤ pos n)) (sym (same_value old.terms new same x)) (is.upper x rows kept);
}

reordered_serves : (p : ProblemValue) (lines : List Line) (s : StateValue) (row : CostRowValue) (old new : Reform)
    → IsReordered old new → IsReformOf p lines s row old → IsReformOf p lines s row new
reordered_serves p lines s row old new order is =
    subst (λ (id : ℕ). IsReformOf p lines s row (record { offset = new.offset; terms = new.terms; lower_line = id; upper_line = new.upper_line })) (sym order.line)
    (subst (λ (n : ℤ). IsReformOf p lines s row (record { offset = n; terms = new.terms; lower_line = old.lower_line; upper_line = new.upper_line })) (sym order.offset)
    (reordered_parts p lines s row old new.terms new.upper_line order.terms is))

all_serve : (p : ProblemValue) (lines : List Line) (s : StateValue) (rows : List CostRowValue) (olds news : List Reform)
    → AllZip IsReordered olds news → AllZip (IsReformOf p lines s) rows olds → AllZip (IsReformOf p lines s) rows news
all_serve p lines s [] [] [] orders are = are
all_serve p lines s [] [] (new ∷ news) orders are = elim orders [ ]
all_serve p lines s [] (old ∷ olds) news orders are = elim are [ ]
all_serve p lines s (row ∷ rows) [] news orders are = elim are [ ]
all_serve p lines s (row ∷ rows) (old ∷ olds) [] orders are = elim orders [ ]
all_serve p lines s (row ∷ rows) (old ∷ olds) (new ∷ news) orders are =
    (reordered_serves p lines s row old new orders.0 are.0, all_serve p lines s rows olds news orders.1 are.1)

-- the reforms in another order of their terms serve wherever the given ones do
pub reordered_are_reforms : (olds news : List Reform) → AllZip IsReordered olds news → (a : Snapshot) → AreReforms a olds → AreReforms a news
reordered_are_reforms olds news orders a are = record {
  rows = are.rows;
  count = sym (length_all_zip IsReordered olds news orders) ∙ are.count;
  each = λ s reached. all_serve a.problem a.lines s a.problem.costs olds news orders (are.each s reached);
}
