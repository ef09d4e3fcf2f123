-- A tightened model, with its costs, is a model of the instance with these costs.
use Rattle.std.proofs.Common.{◌≡◌, ℕ, suc, ◌+◌, ◌<◌, ◌≤◌, ◌^◌, Bool, not, List, [], ◌∷◌, length, map, take, refl, sym, ap, ◌∙◌, arith, ℤ, pos, negsuc, ◌+ℤ◌, neg_ℤ, ◌<ℤ◌}
use Rattle.std.specs.Prelude.{unsigned_abs}
use Rattle.std.specs.List.{filter}
use Rattle.std.proofs.lemmas.Int.{ints}
use Rattle.std.proofs.lemmas.List.{length-map, length-take, take-append-le, take-take}
use Rattle.std.proofs.lemmas.List.Elements.{All-map, All-weaker}
use Rattle.std.proofs.lemmas.Slice.Zip.{AllZip-long}
use Rattle.instance.specs.declared.objective.Objective.{Objective}
use Rattle.instance.specs.Shape.{InstanceValue, IsWithinLimits}
use Rattle.instance.specs.Meaning.{clause_true, costs_of}
use Rattle.instance.specs.ParetoFront.{problem_vector}
use Rattle.instance_normal.specs.NormalForm.{IsCostRowOf, IsNormalFormOf, cost_sources, is_relaxed, relaxed_softs}
use Rattle.instance_normal.specs.Tightened.{tightened}
use Rattle.instance_normal.proofs.Models.{model_restricts}
use Rattle.pb_lin.specs.Constraint.{total, value}
use Rattle.pb_lin.specs.CostRow.{CostRowValue, IsCostRow, row_cost}
use Rattle.pb_lin.specs.Problem.{ProblemValue, IsProblem, IsProblemModel, problem_costs}
use Rattle.search_base.specs.Boards.{IsModelPair}
use Rattle.search_base.proofs.Answered.{value_most}

-- ---- the costs are small

abs_within : (n : ℕ) (z : ℤ) → neg_ℤ (pos n) <ℤ z → z <ℤ pos n → unsigned_abs z < n
abs_within n (pos k) low high = omega (arith, ints)
abs_within n (negsuc k) low high = omega (arith, ints)

above_from_abs : (n : ℕ) (z : ℤ) → unsigned_abs z < n → neg_ℤ (pos n) <ℤ z
above_from_abs n (pos k) small = omega (arith, ints)
above_from_abs n (negsuc k) small = omega (arith, ints)

sum_above : (n v : ℕ) (z : ℤ) → neg_ℤ (pos n) <ℤ z → neg_ℤ (pos n) <ℤ (pos v +ℤ z)
sum_above n v z low = omega (arith, ints)

sum_below : (n v t : ℕ) (z : ℤ) → v ≤ t → (z +ℤ pos t) <ℤ pos n → (pos v +ℤ z) <ℤ pos n
sum_below n v t z most high = omega (arith, ints)

small_cost : (x : List Bool) (r : CostRowValue) → IsCostRow r.terms r.offset → unsigned_abs (row_cost x r) < 2 ^ 63
small_cost x r row = abs_within (2 ^ 63) (row_cost x r)
    (sum_above (2 ^ 63) (value x r.terms) r.offset (above_from_abs (2 ^ 63) r.offset row.least))
    (sum_below (2 ^ 63) (value x r.terms) (total r.terms) r.offset (value_most x r.terms) row.greatest)

-- ---- one for each objective

sources_count : (var : ℕ) (os : List Objective) → length (cost_sources var os) ≡ length os
sources_count var [] = refl
sources_count var (o ∷ os) = ap suc (sources_count (var + length (filter is_relaxed o.softs)) os)

-- ---- the pair

pub tight_pair : (i : InstanceValue) (p : ProblemValue) (a b : List Bool) → IsWithinLimits i → IsProblem p →
    IsNormalFormOf i p → i.vars ≤ length a → b ≡ tightened i (take i.vars a) → IsProblemModel p b →
    problem_costs p b ≡ problem_vector i (costs_of i (take i.vars a))
    → IsModelPair i (record { costs = problem_costs p b; model = take i.vars b })
tight_pair i p a b limits problem form long is model costs =
    let first = take i.vars a in
    let size : length first ≡ i.vars = omega (arith, length-take i.vars a) in
    let cut : take i.vars b ≡ first =
    ap (take i.vars) is
    ∙ take-append-le i.vars first (map (λ s. not (clause_true first s.lits)) (relaxed_softs i)) (omega arith)
    ∙ take-take i.vars i.vars a (omega arith) in
    record {
      model = (model_restricts i p limits form b model).0;
      costs = costs ∙ ap (λ (c : List Bool). problem_vector i (costs_of i c)) (sym cut);
      bounds = record {
        numbers = length-map p.costs (row_cost b)
            ∙ AllZip-long IsCostRowOf (cost_sources (i.vars + 1) i.objectives) p.costs form.costs
            ∙ sources_count (i.vars + 1) i.objectives;
        small = All-map (λ n. unsigned_abs n < 2 ^ 63) (row_cost b) p.costs
            (All-weaker (λ (r : CostRowValue). IsCostRow r.terms r.offset)
            (λ (r : CostRowValue). unsigned_abs (row_cost b r) < 2 ^ 63) (small_cost b) p.costs problem.cost_rows);
      };
    }
