-- A bounded problem is fixed by what it is made of.
use Rattle.std.specs.Prelude.{◌≡◌, ℕ, List, [], ◌∷◌, ◌++◌, map, ℤ, refl}
use Rattle.std.proofs.Common.{sym, ◌∙◌, ap}
use Rattle.pb_lin.specs.Constraint.{ConstraintValue}
use Rattle.pb_lin.specs.CostRow.{CostRowValue}
use Rattle.pb_lin.specs.Problem.{ProblemValue}
use Rattle.pb_lin.proofs.Unique.{equal_excess}
use Rattle.representatives.specs.Bounded.{AreCostBounds, IsCostBound, blocking}
use Rattle.representatives.specs.Laws.{OneBoundedProblem}

one_bound : (r : CostRowValue) (u : ℤ) (c d : ConstraintValue) → IsCostBound r u c → IsCostBound r u d → c ≡ d
one_bound r u c d first second = equal_excess c d first.normal second.normal _ first.excess second.excess

one_bounds : (rs : List CostRowValue) (us : List ℤ) (cs ds : List ConstraintValue) → AreCostBounds rs us cs → AreCostBounds rs us ds → cs ≡ ds
one_bounds [] [] [] [] first second = refl
one_bounds [] [] [] (d ∷ ds) first second = absurd second
one_bounds [] [] (c ∷ cs) ds first second = absurd first
one_bounds [] (u ∷ us) cs ds first second = absurd first
one_bounds (r ∷ rs) [] cs ds first second = absurd first
one_bounds (r ∷ rs) (u ∷ us) [] ds first second = absurd first
one_bounds (r ∷ rs) (u ∷ us) (c ∷ cs) [] first second = absurd second
one_bounds (r ∷ rs) (u ∷ us) (c ∷ cs) (d ∷ ds) first second = ap (λ (e : ConstraintValue). e ∷ cs) (one_bound r u c d first.0 second.0) ∙ ap (λ (es : List ConstraintValue). d ∷ es) (one_bounds rs us cs ds first.1 second.1)

pub one_problem_law : OneBoundedProblem
one_problem_law p us list q r first second =
    let bounds : first.bounds ≡ second.bounds = one_bounds p.costs us first.bounds second.bounds first.are_bounds second.are_bounds in
    let vars : q.vars ≡ r.vars = first.vars ∙ sym second.vars in
    let rows : q.rows ≡ r.rows = first.rows ∙ ap (λ (cs : List ConstraintValue). p.rows ++ (cs ++ map blocking list)) bounds ∙ sym second.rows in
    let costs : q.costs ≡ r.costs = first.costs ∙ sym second.costs in
    ap (λ (n : ℕ). let t : ProblemValue = record { vars = n; rows = q.rows; costs = q.costs } in t) vars
    ∙ ap (λ (cs : List ConstraintValue). let t : ProblemValue = record { vars = r.vars; rows = cs; costs = q.costs } in t) rows
    ∙ ap (λ (ks : List CostRowValue). let t : ProblemValue = record { vars = r.vars; rows = r.rows; costs = ks } in t) costs
