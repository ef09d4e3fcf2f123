-- A generated instance is within the limits.
use Rattle.std.proofs.Common.{◌≡◌, ℕ, zero, suc, ◌+◌, ◌*◌, ◌<◌, ◌≤◌, ◌/◌, [], length, map, refl, arith}
use Rattle.std.specs.Prelude.{All, sum_by}
use Rattle.std.specs.List.{range_with_len}
use Rattle.std.proofs.Math.Nat.{mod-lt}
use Rattle.std.proofs.lemmas.List.Elements.{All-cons, All-nil}
use Rattle.std.proofs.lemmas.List.Sums.{sum_by-cons}
use Rattle.std.proofs.lemmas.List.FromFn.{length-map-range_with_len}
use Rattle.scut_base.specs.Literal.{Literal}
use Rattle.instance.specs.declared.objective.Soft.{Soft}
use Rattle.instance.specs.declared.objective.Objective.{Objective}
use Rattle.instance.specs.Shape.{ClauseUpTo, IsObjectiveWithin, IsRowWithin, IsWithinLimits, weights_sum}
use Rattle.command_gen.specs.Draws.{beginning, draw, state_after}
use Rattle.command_gen.specs.Generated.{drawn_clause, drawn_item, drawn_objective, drawn_soft, generated, nth_clause, nth_objective}

-- what holds of each value holds of their list
pub all_drawn : {X : Type 0} (P : X → Type 0) (f : ℕ → X) (a n top : ℕ) → a + n ≤ top → ((k : ℕ) → a ≤ k → k < top → P (f k)) → All P (map f (range_with_len a n))
all_drawn P f a zero top fits each = All-nil P
all_drawn P f a (suc n) top fits each =
    All-cons P (f a) (map f (range_with_len (a + 1) n)) (each a (omega arith) (omega (arith, fits)))
    (all_drawn P f (a + 1) n top (omega (arith, fits)) (λ k from below. each k (omega (arith, from)) below))

-- a draw is below its bound
pub draw_below : (n state k : ℕ) → 0 < n → draw n state k < n
draw_below n state k some = mod-lt (state_after k state / 65536) some

-- weights are at most 4
weights_small : (state a n : ℕ) → weights_sum (map (drawn_soft state) (range_with_len a n)) ≤ 4 * n
weights_small state a zero = let none : weights_sum [] ≡ 0 = refl in omega (arith, none)
weights_small state a (suc n) =
    let first : draw 4 state a < 4 = draw_below 4 state a (omega arith) in
    let sum : weights_sum (map (drawn_soft state) (range_with_len a (suc n))) ≡ (1 + draw 4 state a) + weights_sum (map (drawn_soft state) (range_with_len (a + 1) n)) =
    sum_by-cons (λ (s : Soft). s.weight) (drawn_soft state a) (map (drawn_soft state) (range_with_len (a + 1) n)) in
    omega (arith, first, sum, weights_small state (a + 1) n)

-- how many soft clauses all objectives have
softs_count : (f : ℕ → Objective) (vars a n : ℕ) → vars ≤ 4096 → ((k : ℕ) → length (f k).softs ≡ vars) → sum_by (λ (o : Objective). length o.softs) (map f (range_with_len a n)) ≤ 4096 * n
softs_count f vars a zero small each = let none : sum_by (λ (o : Objective). length o.softs) [] ≡ 0 = refl in omega (arith, none)
softs_count f vars a (suc n) small each =
    let sum : sum_by (λ (o : Objective). length o.softs) (map f (range_with_len a (suc n))) ≡ length (f a).softs + sum_by (λ (o : Objective). length o.softs) (map f (range_with_len (a + 1) n)) =
    sum_by-cons (λ (o : Objective). length o.softs) (f a) (map f (range_with_len (a + 1) n)) in
    omega (arith, each a, small, sum, softs_count f vars (a + 1) n small each)

module _ (vars : ℕ) (some : 0 < vars) (small : vars ≤ 4096) where
  clause_within : (state : ℕ) → ClauseUpTo vars (drawn_clause vars state)
  clause_within state = all_drawn (λ (l : Literal). l.var ≤ vars) (drawn_item vars state) 1 3 4 (omega arith)
      (λ k from below. let drawn : draw vars state k < vars = draw_below vars state k some in omega (arith, drawn))

  objective_within : (state : ℕ) → IsObjectiveWithin vars (drawn_objective vars state)
  objective_within state = record {
    clauses = all_drawn (λ (s : Soft). ClauseUpTo vars s.lits) (drawn_soft state) 1 vars (vars + 1) (omega arith)
        (λ k from below. All-cons (λ (l : Literal). l.var ≤ vars) _ [] (omega (arith, below)) (All-nil (λ (l : Literal). l.var ≤ vars)));
    variables = All-nil _;
    magnitude = omega (arith, weights_small state 1 vars, small);
    maximised = λ wrong. absurd cc;
  }

  pub generated_within : (number objectives : ℕ) → objectives ≤ 64 → IsWithinLimits (generated number vars objectives)
  generated_within number objectives few =
      let count = length-map-range_with_len (nth_objective vars (state_after (3 * vars) (beginning number))) 0 objectives in
      let clauses = length-map-range_with_len (nth_clause vars (beginning number)) 0 vars in
      let softs = softs_count (nth_objective vars (state_after (3 * vars) (beginning number))) vars 0 objectives small
      (λ k. length-map-range_with_len (drawn_soft (state_after (vars * k) (state_after (3 * vars) (beginning number)))) 1 vars) in
      record {
        variables = omega (arith, small);
        count = omega (arith, count, few);
        clauses = all_drawn (ClauseUpTo vars) (nth_clause vars (beginning number)) 0 vars vars (omega arith) (λ k from below. clause_within (state_after (3 * k) (beginning number)));
        rows = All-nil (IsRowWithin vars);
        objectives = all_drawn (IsObjectiveWithin vars) (nth_objective vars (state_after (3 * vars) (beginning number))) 0 objectives objectives (omega arith)
            (λ k from below. objective_within (state_after (vars * k) (state_after (3 * vars) (beginning number))));
        size = omega (arith, clauses, softs, small, few);
      }
