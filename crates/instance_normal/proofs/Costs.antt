-- The cost rows of a problem against the costs of the instance.
use Rattle.std.proofs.Common.{◌≡◌, ℕ, ◌+◌, Bool, List, [], ◌∷◌, ◌++◌, length, map, filter, refl, ap, ap₂, ◌∙◌, ℤ, pos, ◌+ℤ◌, ◌≤ℤ◌, neg_ℤ, if◌then◌else◌, true, false, not, arith}
use Rattle.std.specs.Prelude.{All, int_lt}
use Rattle.std.specs.List.{AllZip, flat_map}
use Rattle.std.proofs.lemmas.Int.{ints}
use Rattle.std.proofs.lemmas.Bool.{and_from, not_from_false}
use Rattle.std.proofs.lemmas.List.Elements.{All-head, All-tail}
use Rattle.scut_base.specs.Literal.{Literal}
use Rattle.scut_base.specs.Assignment.{lit_true}
use Rattle.front_set.specs.Vector.{is_below, IsBelow}
use Rattle.instance.specs.declared.objective.Objective.{Objective}
use Rattle.instance.specs.declared.objective.Soft.{Soft}
use Rattle.instance.specs.declared.objective.Sense.{Sense}
use Rattle.instance.specs.declared.objective.Sense.TheVariants.{Min, Max}
use Rattle.instance.specs.Shape.{IsObjectiveWithin}
use Rattle.instance.specs.Meaning.{int_sum_by, term_value, terms_value, soft_cost, objective_cost}
use Rattle.instance.specs.ParetoFront.{problem_number, problem_numbers}
use Rattle.pb_lin.specs.NormalForm.{sum_value}
use Rattle.pb_lin.specs.CostRow.{CostRowValue, row_cost}
use Rattle.instance_normal.specs.NormalForm.{is_relaxed, soft_terms, CostSource, cost_source, cost_sources, IsCostRowOf}
use Rattle.instance_normal.proofs.Truth.{int_sum-append, sum_value-terms_value}
use Rattle.instance_normal.proofs.Payments.{AreTight, AreHeld, softs_sum, tight_sum, held_sum, tight_split, held_split}

-- the value of what a cost row is made from
abbrev pub source_cost : List Bool → CostSource → ℤ
source_cost b s = sum_value b s.terms +ℤ s.offset

pub row_costs : (b : List Bool) (ss : List CostSource) (rs : List CostRowValue) → AllZip IsCostRowOf ss rs → map (row_cost b) rs ≡ map (source_cost b) ss
row_costs b [] [] zipped = refl
row_costs b [] (r ∷ rs) zipped = absurd zipped
row_costs b (s ∷ ss) [] zipped = absurd zipped
row_costs b (s ∷ ss) (r ∷ rs) zipped = ap₂ (λ x xs. x ∷ xs) (zipped.0.value b) (row_costs b ss rs zipped.1)

-- the terms of a maximised objective are negated
signed_terms : (b : List Bool) (sense : Sense) (terms : List (ℤ × Literal)) → terms_value b (map (λ t. (problem_number sense t.0, t.1)) terms) ≡ problem_number sense (terms_value b terms)
signed_terms b Min [] = refl
signed_terms b Min (t ∷ terms) = ap (λ z. term_value b t +ℤ z) (signed_terms b Min terms)
signed_terms b Max [] = omega (arith, ints)
signed_terms b Max (t ∷ terms) = by (lit_true b t.1) (signed_terms b Max terms)
  where
    by : (v : Bool) → terms_value b (map (λ u. (neg_ℤ u.0, u.1)) terms) ≡ neg_ℤ (terms_value b terms) → (if v then neg_ℤ t.0 else pos 0) +ℤ terms_value b (map (λ u. (neg_ℤ u.0, u.1)) terms) ≡ neg_ℤ ((if v then t.0 else pos 0) +ℤ terms_value b terms)
    by true rest = omega (arith, ints)
    by false rest = omega (arith, ints)

source_parts : (b : List Bool) (var : ℕ) (o : Objective) → source_cost b (cost_source var o) ≡ softs_sum b var o.softs +ℤ problem_number o.sense (terms_value b o.terms) +ℤ problem_number o.sense o.offset
source_parts b var o =
    let terms = sum_value-terms_value b (soft_terms var o.softs ++ map (λ t. (problem_number o.sense t.0, t.1)) o.terms) in
    let parts = int_sum-append (term_value b) (soft_terms var o.softs) (map (λ t. (problem_number o.sense t.0, t.1)) o.terms) in
    let signed = signed_terms b o.sense o.terms in
    omega (arith, ints)

-- The sense of an objective, and its sums: softs s, terms t, offset o.
exact_by : (sense : Sense) (s t o : ℤ) → (sense ≡ Max → s ≡ pos 0) → s +ℤ problem_number sense t +ℤ problem_number sense o ≡ problem_number sense (s +ℤ t +ℤ o)
exact_by Min s t o none = refl
exact_by Max s t o none = (let zero = none refl in omega (arith, ints))

no_softs : (b : List Bool) (n : ℕ) (o : Objective) → IsObjectiveWithin n o → o.sense ≡ Max → int_sum_by (soft_cost b) o.softs ≡ pos 0
no_softs b n o within max = ap (int_sum_by (soft_cost b)) (within.maximised max)

tight_objective : (b : List Bool) (n var : ℕ) (o : Objective) → IsObjectiveWithin n o → AreTight b var (filter is_relaxed o.softs) → source_cost b (cost_source var o) ≡ problem_number o.sense (objective_cost b o)
tight_objective b n var o within tight =
    let softs = tight_sum b var o.softs tight in
    source_parts b var o
    ∙ ap (λ z. z +ℤ problem_number o.sense (terms_value b o.terms) +ℤ problem_number o.sense o.offset) softs
    ∙ exact_by o.sense (int_sum_by (soft_cost b) o.softs) (terms_value b o.terms) o.offset (no_softs b n o within)

held_objective : (b : List Bool) (n var : ℕ) (o : Objective) → IsObjectiveWithin n o → AreHeld b var (filter is_relaxed o.softs) → problem_number o.sense (objective_cost b o) ≤ℤ source_cost b (cost_source var o)
held_objective b n var o within held =
    let softs = held_sum b var o.softs held in
    let whole = source_parts b var o in
    let exact = exact_by o.sense (int_sum_by (soft_cost b) o.softs) (terms_value b o.terms) o.offset (no_softs b n o within) in
    omega (arith, ints)

-- the relaxed soft clauses of these objectives
abbrev pub relaxed_of : List Objective → List Soft
relaxed_of os = flat_map (λ o. filter is_relaxed o.softs) os

pub tight_costs : (b : List Bool) (n var : ℕ) (os : List Objective) → All (IsObjectiveWithin n) os → AreTight b var (relaxed_of os) → map (source_cost b) (cost_sources var os) ≡ problem_numbers os (map (objective_cost b) os)
tight_costs b n var [] within tight = refl
tight_costs b n var (o ∷ os) within tight =
    let parts = tight_split b var (filter is_relaxed o.softs) (relaxed_of os) tight in
    ap₂ (λ x xs. x ∷ xs) (tight_objective b n var o (All-head (IsObjectiveWithin n) o os within) parts.0) (tight_costs b n (var + length (filter is_relaxed o.softs)) os (All-tail (IsObjectiveWithin n) o os within) parts.1)

pub held_costs : (b : List Bool) (n var : ℕ) (os : List Objective) → All (IsObjectiveWithin n) os → AreHeld b var (relaxed_of os) → IsBelow (problem_numbers os (map (objective_cost b) os)) (map (source_cost b) (cost_sources var os))
held_costs b n var [] within held = refl
held_costs b n var (o ∷ os) within held =
    let parts = held_split b var (filter is_relaxed o.softs) (relaxed_of os) held in
    let here = held_objective b n var o (All-head (IsObjectiveWithin n) o os within) parts.0 in
    and_from (not (int_lt (source_cost b (cost_source var o)) (problem_number o.sense (objective_cost b o)))) (is_below (problem_numbers os (map (objective_cost b) os)) (map (source_cost b) (cost_sources (var + length (filter is_relaxed o.softs)) os))) (test_from_le (problem_number o.sense (objective_cost b o)) (source_cost b (cost_source var o)) here) (held_costs b n (var + length (filter is_relaxed o.softs)) os (All-tail (IsObjectiveWithin n) o os within) parts.1)
  where
    test_from_le : (x y : ℤ) → x ≤ℤ y → not (int_lt y x) ≡ true
    test_from_le x y h = not_from_false (int_lt y x) (grind (arith, ints))
