-- The negation of a clause in front of hints: it makes all of the clause's literals false.
use Rattle.std.specs.Prelude.{◌≡◌, ℕ, ◌-◌, ◌<◌, ◌≤◌, Bool, true, not, if◌then◌else◌, Option, Some, None, option_map, List, [], ◌∷◌, length, replicate, sum_by, AllPairs, Contains, pos, ◌<ℤ◌, int_lt, refl}
use Rattle.std.proofs.Common.{sym, ◌∙◌, ap, arith}
use Rattle.std.specs.Option.{is_none}
use Rattle.std.proofs.lemmas.Bool.{and_from}
use Rattle.std.proofs.lemmas.Int.{ints}
use Rattle.std.proofs.lemmas.List.{length-replicate}
use Rattle.std.proofs.lemmas.List.Elements.{All-map, All-contains}
use Rattle.std.proofs.lemmas.List.Sums.{sum_by-cons}
use Rattle.scut_base.specs.Literal.{Literal}
use Rattle.scut_base.specs.Assignment.{partial_truth}
use Rattle.scut_base.proofs.Lists.{Contains-map}
use Rattle.pb_lin.specs.Constraint.{ConstraintValue, IsMerged, negation, ones, opposite, opposite_terms, possible_value, slack, total, unless_false}
use Rattle.pb_lin.specs.Propagation.{is_forced}
use Rattle.pb_lin.proofs.Ones.{AllPairs-map}
use Rattle.hint_rup.specs.Propagation.{forced, Conflicts}
use Rattle.hint_rup.proofs.Agreement.{all_open}
use Rattle.hint_rup.proofs.Conflict.{conflicts_later}
use Rattle.proof_laws.specs.Steps.{clause}
use Rattle.cdcl_state.specs.Walking.{AreVariables}
use Rattle.cdcl_state.proofs.Rows.{forced_true, more_forced}

abbrev open_values : ℕ → List (Option Bool)
open_values n = replicate n None

abbrev opposites : List Literal → List (Literal × ℕ)
opposites lits = opposite_terms (ones lits)

opposites_merged : (n : ℕ) (lits : List Literal) → AreVariables n lits → AllPairs (λ l m. l.var < m.var) lits → IsMerged (opposites lits)
opposites_merged n lits are rising = record {
  positive = All-map (λ (t : Literal × ℕ). 0 < t.1) (λ (t : Literal × ℕ). (opposite t.0, t.1)) (ones lits) (All-map (λ (t : Literal × ℕ). 0 < t.1) (λ (l : Literal). (l, 1)) lits (λ k d within. omega arith));
  from_one = All-map (λ (t : Literal × ℕ). 0 < t.0.var) (λ (t : Literal × ℕ). (opposite t.0, t.1)) (ones lits) (All-map (λ (t : Literal × ℕ). 0 < t.0.var) (λ (l : Literal). (l, 1)) lits (λ k d within. (are k d within).0));
  rising = AllPairs-map (λ (s t : Literal × ℕ). s.0.var < t.0.var) (λ (t : Literal × ℕ). (opposite t.0, t.1)) (λ t. t) (ones lits) (AllPairs-map (λ (s t : Literal × ℕ). s.0.var < t.0.var) (λ (l : Literal). (l, 1)) (λ t. t.0) lits rising);
}

truth_open : (n : ℕ) (l : Literal) → partial_truth (open_values n) l ≡ None
truth_open n l = ap (λ (o : Option Bool). option_map (λ b. if l.neg then not b else b) o) (all_open n (l.var - 1))

-- where nothing is known, all is possible
all_possible : (n : ℕ) (lits : List Literal) → sum_by (possible_value (open_values n)) (opposites lits) ≡ total (ones lits)
all_possible n [] = refl
all_possible n (l ∷ lits) =
    let first : possible_value (open_values n) (opposite l, 1) ≡ 1 = ap (λ (o : Option Bool). unless_false o 1) (truth_open n (opposite l)) in
    let rest : sum_by (possible_value (open_values n)) (opposites lits) ≡ total (ones lits) = all_possible n lits in
    omega (arith, sum_by-cons (possible_value (open_values n)) (opposite l, 1) (opposites lits), sum_by-cons (λ (t : Literal × ℕ). t.1) (l, 1) (ones lits))

below_one : (n : ℕ) (lits : List Literal) → int_lt (slack (open_values n) (negation (clause lits))) (pos 1) ≡ true
below_one n lits =
    let sum : sum_by (possible_value (open_values n)) (opposites lits) ≡ total (ones lits) = all_possible n lits in
    lt_test (slack (open_values n) (negation (clause lits))) (pos 1) (omega (arith, ints))
  where
    lt_test : (x y : _) → x <ℤ y → int_lt x y ≡ true
    lt_test x y below = grind (arith, ints)

-- it makes the opposite of each literal true
opposite_true : (n : ℕ) (lits : List Literal) (l : Literal) → AreVariables n lits → AllPairs (λ l m. l.var < m.var) lits → Contains lits l → partial_truth (forced (open_values n) (negation (clause lits))) (opposite l) ≡ Some true
opposite_true n lits l are rising among =
    let there : Contains (opposites lits) (opposite l, 1) = Contains-map (λ (t : Literal × ℕ). (opposite t.0, t.1)) (ones lits) (l, 1) (Contains-map (λ (m : Literal). (m, 1)) lits l among) in
    let variable : (0 < l.var) × (l.var ≤ n) = All-contains (λ (m : Literal). (0 < m.var) × (m.var ≤ n)) lits l are among in
    let positive : 0 < l.var = variable.0 in
    let upto : l.var ≤ n = variable.1 in
    let passes : is_forced (open_values n) (negation (clause lits)) (opposite l, 1) ≡ true = and_from _ _ (ap (λ (o : Option Bool). is_none o) (truth_open n (opposite l))) (below_one n lits) in
    forced_true (open_values n) (negation (clause lits)) there.0 (opposite l, 1) (opposites_merged n lits are rising) there.1 (sym there.2) (omega (arith, length-replicate {A = Option Bool} n None)) passes

-- What conflicts wherever a clause's literals are false conflicts after the clause's negation.
pub negation_first : (n : ℕ) (lits : List Literal) (cs : List ConstraintValue) → AreVariables n lits → AllPairs (λ l m. l.var < m.var) lits
    → ((p : List (Option Bool)) → length p ≡ n → ((l : Literal) → Contains lits l → partial_truth p (opposite l) ≡ Some true) → Conflicts p cs)
    → Conflicts (replicate n None) (negation (clause lits) ∷ cs)
negation_first n lits cs are rising rest =
    conflicts_later (open_values n) (negation (clause lits)) cs
    (rest (forced (open_values n) (negation (clause lits)))
    ((more_forced (open_values n) (negation (clause lits))).as_long ∙ length-replicate {A = Option Bool} n None)
    (λ l among. opposite_true n lits l are rising among))
