-- The goals of the objectives.
use Rattle.std.proofs.Common.{◌≡◌, ℕ, ◌+◌, ◌<◌, ◌≤◌, ◌==◌, zero, suc, Bool, true, false, if◌then◌else◌, None, List, [], ◌∷◌, refl, arith, pos}
use Rattle.std.specs.Prelude.{◌^◌}
use Rattle.std.specs.List.{All}
use Rattle.std.proofs.lemmas.Bool.{eqb-true, eqb-false}
use Rattle.std.proofs.lemmas.Int.{ints, clamps}
use Rattle.std.proofs.lemmas.List.Elements.{All-nil, All-cons, All-head, All-tail}
use Rattle.std.proofs.lemmas.List.Sums.{sum_by-cons}
use Rattle.scut_base.specs.Literal.{Literal}
use Rattle.scut_base.specs.Assignment.{lit_true}
use Rattle.pb_lin.specs.Constraint.{ConstraintValue, IsNormal, term_value, value}
use Rattle.pb_lin.specs.CostRow.{CostRowValue, IsCostRow}
use Rattle.proof_laws.specs.State.{StateValue}
use Rattle.proof_laws.specs.Steps.{term_of}
use Rattle.proof_laws.specs.Substituted.{not_risen, none_risen}
use Rattle.proof_laws.specs.Refusal.{IsGoalFault}
use Rattle.proof_laws.specs.declared.goal.Goal.{Goal}
use Rattle.proof_laws.specs.declared.goal.GoalProof.{GoalProof}
use Rattle.harden.specs.Hardened.{falsified}
use Rattle.harden.specs.Laws.{OnlyAs, coefficient}
use Rattle.harden.proofs.Splitting.{split_total, split_value, under_value, own_truth}
use Rattle.harden.proofs.GoalFaults.{closed}

-- one literal with a coefficient, or nothing
one_value : (x : List Bool) (l : Literal) (k : ℕ) → value x (term_of l k) ≡ (if lit_true x l then k else 0)
one_value x l k = by (k == 0) refl
  where
    by : (b : Bool) → (k == 0) ≡ b → value x (if b then [] else (l, k) ∷ []) ≡ (if lit_true x l then k else 0)
    by true e = zero_either (lit_true x l)
      where
        zero_either : (c : Bool) → 0 ≡ (if c then k else 0)
        zero_either true = let none = eqb-true k 0 e in omega arith
        zero_either false = refl
    by false e = let cons = sum_by-cons (term_value x) (l, k) [] in omega arith

nonzero : (k : ℕ) → (k ≡ 0 → ⊥) → 0 < k
nonzero zero some = absurd (some refl)
nonzero (suc k) some = omega arith

one_normal : (l : Literal) (k degree : ℕ) → 0 < l.var → k + degree ≤ 2 ^ 100 → IsNormal (term_of l k) degree
one_normal l k degree from_one small = by (k == 0) refl
  where
    by : (b : Bool) → (k == 0) ≡ b → IsNormal (if b then [] else (l, k) ∷ []) degree
    by true e = record {
      merged = record { positive = All-nil (λ t. 0 < t.1); from_one = All-nil (λ t. 0 < t.0.var); rising = λ i j d before short. absurd (omega arith) };
      small = omega arith;
    }
    by false e = record {
      merged = record {
        positive = All-cons (λ t. 0 < t.1) (l, k) [] (nonzero k (eqb-false k 0 e)) (All-nil (λ t. 0 < t.1));
        from_one = All-cons (λ t. 0 < t.0.var) (l, k) [] from_one (All-nil (λ t. 0 < t.0.var));
        rising = λ i j d before short. absurd (omega arith);
      };
      small = let cons = sum_by-cons (λ (t : Literal × ℕ). t.1) (l, k) [] in omega arith;
    }

module _ (s : StateValue) (c : ConstraintValue) (proofs : List (Goal × GoalProof)) (l : Literal) (from_one : 0 < l.var) where
  risen_closed : (i : ℕ) (r : CostRowValue) → IsCostRow r.terms r.offset → OnlyAs l r.terms → IsGoalFault s c proofs (not_risen (falsified l) i r) None
  risen_closed i r row only =
      let k = coefficient l.var r.terms in
      let split = split_total l.var r.terms in
      let small = row.small in
      closed s c proofs (not_risen (falsified l) i r) (record { terms = term_of l k; degree = 0 }) (omega arith) (
        one_normal l k 0 from_one (omega arith),
        record {
          least = pos 0;
          same = λ x.
              let one = one_value x l k in
              let before = split_value l r.terms x only in
              let after = under_value l l r.terms x false refl (own_truth l x) only in
              omega (arith, ints);
          degree = omega (arith, ints, clamps);
        },
      ) refl

  pub costs_closed : (i : ℕ) (rows : List CostRowValue) → All (λ r. IsCostRow r.terms r.offset) rows → All (λ r. OnlyAs l r.terms) rows → All (λ q. IsGoalFault s c proofs q None) (none_risen (falsified l) i rows)
  costs_closed i [] are only = All-nil (λ q. IsGoalFault s c proofs q None)
  costs_closed i (r ∷ rows) are only = All-cons (λ q. IsGoalFault s c proofs q None) (not_risen (falsified l) i r) (none_risen (falsified l) (i + 1) rows)
      (risen_closed i r (All-head (λ q. IsCostRow q.terms q.offset) r rows are) (All-head (λ q. OnlyAs l q.terms) r rows only))
      (costs_closed (i + 1) rows (All-tail (λ q. IsCostRow q.terms q.offset) r rows are) (All-tail (λ q. OnlyAs l q.terms) r rows only))
