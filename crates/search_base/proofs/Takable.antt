-- What a solution of the clauses tells.
use Rattle.std.proofs.Common.{◌≡◌, ℕ, ◌<◌, ◌≤◌, Bool, List, [], ◌∷◌, length, map, take, refl, ap, ap₂, arith, ℤ, pos, ◌+ℤ◌}
use Rattle.std.specs.List.{All}
use Rattle.std.proofs.lemmas.List.{length-take}
use Rattle.std.proofs.lemmas.List.Elements.{All-head, All-tail}
use Rattle.scut_base.specs.Literal.{Literal}
use Rattle.front_set.specs.Vector.{IsBelow}
use Rattle.front_set.proofs.FrontLaws.{IsBelow-trans}
use Rattle.pb_lin.specs.Constraint.{IsVariable, TermsUpTo}
use Rattle.instance_normal.proofs.Members.{all_both}
use Rattle.pb_lin.specs.CostRow.{CostRowValue, IsCostRow, row_cost}
use Rattle.pb_lin.specs.Problem.{ProblemValue, IsProblem, IsProblemModel, problem_costs}
use Rattle.proof_laws.specs.State.{StateValue}
use Rattle.proof_laws.proofs.Images.{value-take}
use Rattle.proof_rules.specs.Recording.{Snapshot}
use Rattle.sum_outputs.specs.Adding.{IsReached}
use Rattle.sum_outputs.proofs.LaterStates.{replay_vars}
use Rattle.search_base.specs.Logged.{IsCovered}
use Rattle.search_base.specs.Good.{AllIsNew}
use Rattle.search_base.specs.Turns.{IsTakable}

-- ---- the part that is the problem's

terms_within : (n : ℕ) (terms : List (Literal × ℕ)) → All (λ t. 0 < t.0.var) terms → TermsUpTo n terms →
    All (λ t. IsVariable n t.0.var) terms
terms_within n terms some upto k d short = (some k d short, upto k d short)

map_agrees : {X Y : Type 0} (f g : X → Y) (xs : List X) → All (λ x. f x ≡ g x) xs → map f xs ≡ map g xs
map_agrees f g [] all = refl
map_agrees f g (x ∷ xs) all =
    ap₂ (λ y ys. y ∷ ys) (All-head (λ z. f z ≡ g z) x xs all) (map_agrees f g xs (All-tail (λ z. f z ≡ g z) x xs all))

cost_kept : (n : ℕ) (y : List Bool) (r : CostRowValue) → IsCostRow r.terms r.offset → TermsUpTo n r.terms →
    row_cost (take n y) r ≡ row_cost y r
cost_kept n y r row upto =
    ap (λ (v : ℕ). pos v +ℤ r.offset) (value-take n y r.terms (terms_within n r.terms row.from_one upto))

pub costs_kept : (p : ProblemValue) (y : List Bool) → IsProblem p → problem_costs p (take p.vars y) ≡ problem_costs p y
costs_kept p y problem = map_agrees (row_cost (take p.vars y)) (row_cost y) p.costs
    (all_both (λ (r : CostRowValue). IsCostRow r.terms r.offset) (λ (r : CostRowValue). TermsUpTo p.vars r.terms)
    (λ (r : CostRowValue). row_cost (take p.vars y) r ≡ row_cost y r) p.costs (cost_kept p.vars y)
    problem.cost_rows problem.cost_variables)

module _ (a : Snapshot) (s : StateValue) (y : List Bool) (reached : IsReached a s) (takable : IsTakable a y) where
  pub long_enough : a.problem.vars ≤ length y
  long_enough =
      let is = takable s reached in
      let same = is.variables in
      let within = replay_vars a.problem a.lines s reached in
      omega arith

  pub problem_part : IsProblem a.problem → IsProblemModel a.problem (take a.problem.vars y)
  problem_part problem =
      let is = takable s reached in
      let long = long_enough in
      record {
        variables = omega (arith, length-take a.problem.vars y);
        rows = λ k d short.
            let normal = problem.normal_rows k d short in
            let within = terms_within a.problem.vars _ normal.merged.from_one (problem.row_variables k d short) in
            let holds = is.rows k d short in
            let same = value-take a.problem.vars y _ within in
            omega arith;
      }

  -- nothing that is logged is below its costs
  pub uncovered_costs : AllIsNew a → IsCovered a.problem a.lines (problem_costs a.problem y) → ⊥
  uncovered_costs new covered = let is = takable s reached in
      new s reached y is.rows (λ id c kept. is.clauses id c kept.0 kept.1) covered

  pub uncovered_below : AllIsNew a → (v : List ℤ) → IsBelow v (problem_costs a.problem y) →
      IsCovered a.problem a.lines v → ⊥
  uncovered_below new v below (u, there, under) =
      uncovered_costs new (u, there, IsBelow-trans u v (problem_costs a.problem y) under below)
