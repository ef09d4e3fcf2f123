-- A line that fixes a literal by redundance is legal.
use Rattle.std.proofs.Common.{◌≡◌, ℕ, ◌+◌, ◌-◌, ◌<◌, ◌≤◌, Bool, true, false, not, if◌then◌else◌, Option, None, Some, List, [], ◌∷◌, ◌++◌, length, get_or, refl, ap, sym, subst, ◌∙◌, arith, pos, ◌-ℤ◌, append-nil}
use Rattle.std.specs.Prelude.{◌^◌, nat_lt}
use Rattle.std.specs.List.{All, filter, flat_map}
use Rattle.std.specs.FinMap.{get, entries, entries_sorted, get-entries}
use Rattle.std.proofs.lemmas.Bool.{lt-ltb}
use Rattle.std.proofs.lemmas.Int.{ints, clamps}
use Rattle.std.proofs.lemmas.List.{get_or_default}
use Rattle.std.proofs.lemmas.List.Elements.{All-nil, All-cons, All-append, All-map}
use Rattle.scut_base.specs.Literal.{Literal}
use Rattle.scut_base.proofs.Lists.{all_filter_if}
use Rattle.pb_lin.specs.Constraint.{ConstraintValue, negation, opposite, size}
use Rattle.pb_lin.specs.Problem.{ProblemValue, IsProblem}
use Rattle.pb_lin.specs.Substitution.{touches, true_under}
use Rattle.cutting_planes.proofs.Terms.{normal-nil}
use Rattle.proof_laws.specs.State.{StateValue, Fits, numbered}
use Rattle.proof_laws.specs.Substituted.{redundance, holds_after, none_risen, touched_hold}
use Rattle.proof_laws.specs.Refusal.{IsGoalFault, IsFirstGoalFault, fault_unless, size_fault, range_fault, written, image_variables, proof_variables}
use Rattle.proof_laws.specs.declared.goal.Goal.{Goal}
use Rattle.proof_laws.specs.declared.goal.Goal.TheVariants.{Row, Itself}
use Rattle.proof_laws.specs.declared.goal.GoalProof.{GoalProof}
use Rattle.proof_laws.specs.declared.why.Why.TheVariants.{AfterEnd, LogLong}
use Rattle.proof_laws.proofs.Conditions.{no_fault, no_first, no_range_fault, no_size_fault}
use Rattle.harden.specs.Hardened.{can_fix, falsified, false_image, fixing, row_proofs, red_line}
use Rattle.harden.specs.Laws.{TouchesRows, RedLinesAreLegal}
use Rattle.proof_laws.proofs.Entries.{entry_found}
use Rattle.harden.proofs.Splitting.{opposite_truth}
use Rattle.harden.proofs.Tests.{fixed_costs}
use Rattle.harden.proofs.GoalFaults.{closed, no_faults}
use Rattle.harden.proofs.RowGoals.{at_row}
use Rattle.harden.proofs.CostGoals.{costs_closed}
use Rattle.harden.proofs.Legality.{no_row_variables}

module _ (p : ProblemValue) (s : StateValue) (l : Literal) (problem : IsProblem p) (fits : Fits p s) (from_one : 0 < l.var) (can : can_fix p l ≡ true) (rows : TouchesRows p s l) where
  abbrev proofs : List (Goal × GoalProof)
  proofs = row_proofs l (numbered 1 p.rows) ++ []

  -- a touched line is a row
  at_entry : (e : ℕ × ConstraintValue) → get s.live e.0 ≡ Some e.1 → touches (falsified l) e.1 ≡ true → IsGoalFault s (fixing l) proofs (holds_after (falsified l) (Row e.0) e.1) None
  at_entry e live touched =
      let place = rows e.0 e.1 live touched in
      let some = place.0 in
      let most = place.1 in
      let k = e.0 - 1 in
      let short : k < length p.rows = omega arith in
      let id_is : k + 1 ≡ e.0 = omega arith in
      let there : get s.live e.0 ≡ Some (get_or p.rows k e.1) = subst (λ (id : ℕ). get s.live id ≡ Some (get_or p.rows k e.1)) id_is (fits.rows k e.1 short) in
      let row_is : get_or p.rows k e.1 ≡ e.1 = same_line (get s.live e.0) (get_or p.rows k e.1) e.1 there live in
      let next : 1 + k ≡ e.0 = omega arith in
      subst (λ (id : ℕ). IsGoalFault s (fixing l) proofs (holds_after (falsified l) (Row id) e.1) None) next
      (subst (λ (c : ConstraintValue). IsGoalFault s (fixing l) proofs (holds_after (falsified l) (Row (1 + k)) c) None) row_is
      (at_row p s l [] problem fits from_one can k e.1 short (ap (λ (c : ConstraintValue). touches (falsified l) c) row_is ∙ touched)))
    where
      same_line : (o : Option ConstraintValue) (c d : ConstraintValue) → o ≡ Some c → o ≡ Some d → c ≡ d
      same_line None c d one other = cc
      same_line (Some f) c d one other = cc

  live_closed : All (λ q. IsGoalFault s (fixing l) proofs q None) (touched_hold (falsified l) (entries s.live))
  live_closed = All-map (λ q. IsGoalFault s (fixing l) proofs q None) (λ e. holds_after (falsified l) (Row e.0) e.1) (filter (λ e. touches (falsified l) e.1) (entries s.live))
      (all_filter_if (λ e. IsGoalFault s (fixing l) proofs (holds_after (falsified l) (Row e.0) e.1) None) (λ e. touches (falsified l) e.1) (entries s.live) (λ k d short touched.
      let e = get_or (entries s.live) k d in
      at_entry e (get-entries s.live e.0 ∙ entry_found (entries s.live) (entries_sorted s.live) e (k, short, get_or_default (entries s.live) k e d short)) touched))

  itself_closed : IsGoalFault s (fixing l) proofs (holds_after (falsified l) Itself (fixing l)) None
  itself_closed = closed s (fixing l) proofs (holds_after (falsified l) Itself (fixing l)) (record { terms = []; degree = 0 }) (omega arith) (
    normal-nil 0 (omega arith),
    record {
      least = pos 0;
      same = λ x. by_truth (true_under (falsified l) x (opposite l)) (opposite_truth l x);
      degree = omega (arith, ints, clamps);
    },
  ) refl
    where
      by_truth : (b : Bool) → b ≡ true → pos 0 -ℤ pos 0 ≡ pos (0 + (if b then 1 else 0)) -ℤ pos 1
      by_truth true e = refl
      by_truth false e = cc

  all_closed : All (λ q. IsGoalFault s (fixing l) proofs q None) (redundance p s (falsified l) (fixing l))
  all_closed = All-append (λ q. IsGoalFault s (fixing l) proofs q None) (touched_hold (falsified l) (entries s.live)) (holds_after (falsified l) Itself (fixing l) ∷ none_risen (falsified l) 1 p.costs)
      live_closed
      (All-cons (λ q. IsGoalFault s (fixing l) proofs q None) (holds_after (falsified l) Itself (fixing l)) (none_risen (falsified l) 1 p.costs) itself_closed
      (costs_closed s (fixing l) proofs l from_one 1 p.costs problem.cost_rows (fixed_costs p l can)))

written_upto : (p : ProblemValue) (l : Literal) (n : ℕ) → l.var ≤ n → All (λ v. v ≤ n) (written (red_line p l))
written_upto p l n upto = All-cons (λ v. v ≤ n) l.var (flat_map image_variables (falsified l) ++ flat_map (λ q. proof_variables q.1) (row_proofs l (numbered 1 p.rows))) upto
    (subst (λ (vs : List ℕ). All (λ v. v ≤ n) (flat_map image_variables (falsified l) ++ vs)) (sym none) (by l.neg))
  where
    none : flat_map (λ q. proof_variables q.1) (row_proofs l (numbered 1 p.rows)) ≡ []
    none = ap (λ (qs : List (Goal × GoalProof)). flat_map (λ q. proof_variables q.1) qs) (sym (append-nil (row_proofs l (numbered 1 p.rows)))) ∙ no_row_variables l (numbered 1 p.rows) []

    by : (b : Bool) → All (λ v. v ≤ n) (flat_map image_variables ((l.var, false_image b) ∷ []) ++ [])
    by true = All-cons (λ v. v ≤ n) l.var [] upto (All-nil (λ v. v ≤ n))
    by false = All-cons (λ v. v ≤ n) l.var [] upto (All-nil (λ v. v ≤ n))

pub red_law : RedLinesAreLegal
red_law p s l problem fits open_ room from_one upto can rows =
    let proofs = row_proofs l (numbered 1 p.rows) in
    let vars = fits.vars in
    let upto_state : l.var ≤ s.vars = omega arith in
    let goals = subst (λ (qs : List (Goal × GoalProof)). All (λ q. IsGoalFault s (fixing l) qs q None) (redundance p s (falsified l) (fixing l))) (append-nil proofs) (all_closed p s l problem fits from_one can rows) in
    no_first (fault_unless (not s.ended) AfterEnd) _ None (no_fault (not s.ended) AfterEnd (ap not open_))
    (no_first (fault_unless (nat_lt s.lines (2 ^ 61)) LogLong) _ None (no_fault (nat_lt s.lines (2 ^ 61)) LogLong (lt-ltb s.lines (2 ^ 61) room))
    (no_first (range_fault s.vars (written (red_line p l))) _ None (no_range_fault s.vars (written (red_line p l)) (written_upto p l s.vars upto_state))
    (no_first (size_fault (size (negation (fixing l)))) (IsFirstGoalFault s (fixing l) proofs (redundance p s (falsified l) (fixing l))) None (no_size_fault (size (negation (fixing l))) (omega arith))
    (no_faults s (fixing l) proofs (redundance p s (falsified l) (fixing l)) goals))))
