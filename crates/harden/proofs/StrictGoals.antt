-- The goal that the sum of all objectives has fallen.
use Rattle.std.proofs.Common.{◌≡◌, ℕ, ◌+◌, ◌-◌, ◌*◌, ◌<◌, ◌≤◌, Bool, true, false, not, cond, ◌&&◌, if◌then◌else◌, Option, None, Some, List, [], ◌∷◌, ◌++◌, length, sum_by, refl, ap, sym, subst, ◌∙◌, arith, Ok, pos, ◌-ℤ◌}
use Rattle.std.specs.Prelude.{◌^◌, ◌<ℤ◌, int_lt, option_map, replicate}
use Rattle.std.specs.List.{All, find}
use Rattle.std.proofs.lemmas.Int.{ints, clamps}
use Rattle.std.proofs.lemmas.List.Elements.{All-nil, All-cons, All-head, All-tail}
use Rattle.std.proofs.lemmas.List.Sums.{sum_by-cons}
use Rattle.scut_base.specs.Literal.{Literal}
use Rattle.scut_base.specs.Assignment.{lit_true, partial_truth}
use Rattle.pb_lin.specs.Constraint.{ConstraintValue, negation, opposite, slack, unless_false, term_value, value}
use Rattle.pb_lin.specs.CostRow.{CostRowValue, IsCostRow}
use Rattle.pb_lin.specs.Problem.{ProblemValue, IsProblem}
use Rattle.pb_lin.specs.Substitution.{value_under}
use Rattle.hint_rup.specs.Hints.{named}
use Rattle.std.specs.Prelude.{fold}
use Rattle.std.specs.Option.{is_none}
use Rattle.std.proofs.lemmas.Grind.{get_or-set_at}
use Rattle.std.proofs.lemmas.List.{length-replicate}
use Rattle.hint_rup.specs.Propagation.{forced, with_true, Conflicts}
use Rattle.hint_rup.proofs.Agreement.{all_open}
use Rattle.hint_rup.specs.declared.hint.Hint.TheVariants.{Denied}
use Rattle.hint_rup.proofs.Conflict.{conflicts_here, conflicts_later}
use Rattle.proof_laws.specs.State.{StateValue, numbered}
use Rattle.proof_laws.specs.Substituted.{IsGoalOf, has_fallen}
use Rattle.proof_laws.specs.Refusal.{given_in, same_goal, IsGoalFault}
use Rattle.proof_laws.specs.declared.goal.Goal.{Goal}
use Rattle.proof_laws.specs.declared.goal.Goal.TheVariants.{Strict}
use Rattle.proof_laws.specs.declared.goal.GoalProof.{GoalProof}
use Rattle.proof_laws.specs.declared.goal.GoalProof.TheVariants.{Rup as ByRup}
use Rattle.harden.specs.Hardened.{falsified, fixing, row_proofs, stays_open, strict_proof}
use Rattle.harden.specs.Laws.{OnlyAs, coefficient}
use Rattle.harden.proofs.Splitting.{others, split_total, split_value, under_value, own_truth}
use Rattle.harden.proofs.GoalFaults.{proved}
use Rattle.harden.proofs.RowProofs.{kept, proofs_of}

-- ---- the sum

abbrev weight : Literal → List CostRowValue → ℕ
weight l rows = sum_by (λ r. coefficient l.var r.terms) rows

weight_value : (l : Literal) (rows : List CostRowValue) (x : List Bool) → All (λ r. OnlyAs l r.terms) rows → sum_by (λ r. value x r.terms) rows ≡ (if lit_true x l then weight l rows else 0) + sum_by (λ r. value_under (falsified l) x r.terms) rows
weight_value l [] x only = by (lit_true x l)
  where
    by : (b : Bool) → 0 ≡ (if b then 0 else 0) + 0
    by true = refl
    by false = refl
weight_value l (r ∷ rows) x only =
    let a = sum_by-cons (λ (q : CostRowValue). value x q.terms) r rows in
    let b = sum_by-cons (λ (q : CostRowValue). value_under (falsified l) x q.terms) r rows in
    let c = sum_by-cons (λ (q : CostRowValue). coefficient l.var q.terms) r rows in
    let own = All-head (λ q. OnlyAs l q.terms) r rows only in
    let before = split_value l r.terms x own in
    let after = under_value l l r.terms x false refl (own_truth l x) own in
    let rest = weight_value l rows x (All-tail (λ q. OnlyAs l q.terms) r rows only) in
    by (lit_true x l) a b c before after rest
  where
    by : (d : Bool) → sum_by (λ q. value x q.terms) (r ∷ rows) ≡ value x r.terms + sum_by (λ q. value x q.terms) rows
        → sum_by (λ q. value_under (falsified l) x q.terms) (r ∷ rows) ≡ value_under (falsified l) x r.terms + sum_by (λ q. value_under (falsified l) x q.terms) rows
        → weight l (r ∷ rows) ≡ coefficient l.var r.terms + weight l rows
        → value x r.terms ≡ (if d then coefficient l.var r.terms else 0) + value x (others l.var r.terms)
        → value_under (falsified l) x r.terms ≡ 0 + value x (others l.var r.terms)
        → sum_by (λ q. value x q.terms) rows ≡ (if d then weight l rows else 0) + sum_by (λ q. value_under (falsified l) x q.terms) rows
        → sum_by (λ q. value x q.terms) (r ∷ rows) ≡ (if d then weight l (r ∷ rows) else 0) + sum_by (λ q. value_under (falsified l) x q.terms) (r ∷ rows)
    by true a b c before after rest = omega arith
    by false a b c before after rest = omega arith

weight_small : (l : Literal) (rows : List CostRowValue) → All (λ r. IsCostRow r.terms r.offset) rows → weight l rows ≤ length rows * 2 ^ 63
weight_small l [] are = omega arith
weight_small l (r ∷ rows) are =
    let c = sum_by-cons (λ (q : CostRowValue). coefficient l.var q.terms) r rows in
    let split = split_total l.var r.terms in
    let row = All-head (λ q. IsCostRow q.terms q.offset) r rows are in
    let small = row.small in
    let rest = weight_small l rows (All-tail (λ q. IsCostRow q.terms q.offset) r rows are) in
    omega arith

-- ---- its proof

strict_found : (l : Literal) (n : ℕ) (rows : List ConstraintValue) → find (λ q. same_goal Strict q.0) (row_proofs l (numbered n rows) ++ strict_proof) ≡ Some (Strict, ByRup (Denied ∷ []))
strict_found l n [] = refl
strict_found l n (c ∷ rows) = by (stays_open (opposite l) c) (strict_found l (n + 1) rows)
  where
    by : (b : Bool) → find (λ q. same_goal Strict q.0) (row_proofs l (numbered (n + 1) rows) ++ strict_proof) ≡ Some (Strict, ByRup (Denied ∷ []))
        → find (λ q. same_goal Strict q.0) (proofs_of (cond b ((n, c) ∷ kept l (numbered (n + 1) rows)) (kept l (numbered (n + 1) rows))) ++ strict_proof) ≡ Some (Strict, ByRup (Denied ∷ []))
    by true more = more
    by false more = more

-- ---- the conflict

abbrev none_known : Option Bool
none_known = None

abbrev all_none : ℕ → List (Option Bool)
all_none n = replicate n None

-- nothing is known at first
open_truth : (n : ℕ) (m : Literal) → partial_truth (all_none n) m ≡ None
open_truth n m = ap (option_map (λ (b : Bool). if m.neg then not b else b)) (all_open n (m.var - 1))

abbrev weighted : Literal → ℕ → ConstraintValue
weighted l k = record { terms = (l, k) ∷ []; degree = 1 }

forced_test : (o : Option Bool) (k : ℕ) → 0 < k → o ≡ None → (is_none o && int_lt (pos (0 + unless_false o k) -ℤ pos ((0 + k + 1) - 1)) (pos k)) ≡ true
forced_test None k some e = grind (arith, ints)
forced_test (Some b) k some e = cc

forced_is : (l : Literal) (k n : ℕ) → 0 < k → forced (all_none n) (negation (weighted l k)) ≡ with_true (all_none n) (opposite l)
unfolding forced
forced_is l k n some = ap (λ (b : Bool). fold {A = Literal × ℕ} (λ q t. with_true q t.0) (all_none n) (cond b ((opposite l, k) ∷ []) []))
    (forced_test (partial_truth (all_none n) (opposite l)) k some (open_truth n (opposite l)))

set_truth : (l : Literal) (n : ℕ) → 0 < l.var → l.var ≤ n → partial_truth (with_true (all_none n) (opposite l)) (opposite (opposite l)) ≡ Some false
set_truth l n from_one upto =
    ap (option_map (λ (b : Bool). if not (not l.neg) then not b else b)) (get_or-set_at (all_none n) (l.var - 1) (l.var - 1) (Some (not (not l.neg))) None refl (let long = length-replicate n none_known in omega arith))
    ∙ by l.neg
  where
    by : (b : Bool) → ◌≡◌ {A = Option Bool} (Some (if not (not b) then not (not (not b)) else not (not b))) (Some false)
    by true = refl
    by false = refl

slack_below : (o : Option Bool) → o ≡ Some false → (pos (0 + unless_false o 1) -ℤ pos ((0 + 1 + 1) - 1)) <ℤ pos 0
slack_below None e = cc
slack_below (Some true) e = cc
slack_below (Some false) e = omega (arith, ints)

-- a literal with a weight is false, and then the denial of "it is false" conflicts
conflict : (l : Literal) (k n : ℕ) → 0 < k → 0 < l.var → l.var ≤ n → Conflicts (all_none n) (negation (weighted l k) ∷ negation (fixing l) ∷ [])
conflict l k n some from_one upto = conflicts_later (all_none n) (negation (weighted l k)) (negation (fixing l) ∷ [])
    (conflicts_here (forced (all_none n) (negation (weighted l k))) (negation (fixing l)) []
    (subst (λ (q : List (Option Bool)). slack q (negation (fixing l)) <ℤ pos 0) (sym (forced_is l k n some)) (slack_below (partial_truth (with_true (all_none n) (opposite l)) (opposite (opposite l))) (set_truth l n from_one upto))))

module _ (p : ProblemValue) (s : StateValue) (l : Literal) (problem : IsProblem p) (from_one : 0 < l.var) (upto : l.var ≤ s.vars) (only : All (λ r. OnlyAs l r.terms) p.costs) (some : 0 < weight l p.costs) where
  abbrev goal_is : ConstraintValue
  goal_is = record { terms = (l, weight l p.costs) ∷ []; degree = 1 }

  small : weight l p.costs ≤ 64 * 2 ^ 63
  small = let most = weight_small l p.costs problem.cost_rows in let few = problem.objectives in omega arith

  is_goal : IsGoalOf goal_is (has_fallen (falsified l) p)
  is_goal = (
    record {
      merged = record {
        positive = All-cons (λ t. 0 < t.1) (l, weight l p.costs) [] some (All-nil (λ t. 0 < t.1));
        from_one = All-cons (λ t. 0 < t.0.var) (l, weight l p.costs) [] from_one (All-nil (λ t. 0 < t.0.var));
        rising = λ i j d before short. absurd (omega arith);
      };
      small = let cons = sum_by-cons (λ (t : Literal × ℕ). t.1) (l, weight l p.costs) [] in let most = small in omega arith;
    },
    record {
      least = pos 1;
      same = λ x.
          let one = sum_by-cons (term_value x) (l, weight l p.costs) [] in
          let whole = weight_value l p.costs x only in
          omega (arith, ints);
      degree = omega (arith, ints, clamps);
    },
  )

  by_hints : Conflicts (replicate s.vars None) (negation goal_is ∷ named (given_in s (Some (negation goal_is)) (Some (negation (fixing l)))) (Denied ∷ []))
  unfolding named
  by_hints = conflict l (weight l p.costs) s.vars some from_one upto

  pub strict_closed : IsGoalFault s (fixing l) (row_proofs l (numbered 1 p.rows) ++ strict_proof) (has_fallen (falsified l) p) None
  strict_closed = proved s (fixing l) (row_proofs l (numbered 1 p.rows) ++ strict_proof) (has_fallen (falsified l) p) goal_is (ByRup (Denied ∷ [])) (omega arith) is_goal (omega arith)
      (ap (option_map (λ (q : Goal × GoalProof). q.1)) (strict_found l 1 p.rows))
      (let most = small in let a = sum_by-cons (λ (t : Literal × ℕ). t.1) (l, weight l p.costs) [] in let b = sum_by-cons (λ (t : Literal × ℕ). t.1) (opposite l, weight l p.costs) [] in omega arith)
      (Ok tt, by_hints, refl)
