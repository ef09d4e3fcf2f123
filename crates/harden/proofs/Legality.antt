-- A line that fixes a literal by dominance is legal.
use Rattle.std.proofs.Common.{◌≡◌, ℕ, ◌≤◌, Bool, true, false, not, cond, None, List, [], ◌∷◌, ◌++◌, refl, ap, sym, subst, arith}
use Rattle.std.specs.Prelude.{◌^◌, nat_lt}
use Rattle.std.specs.List.{All}
use Rattle.std.proofs.lemmas.Bool.{lt-ltb}
use Rattle.std.proofs.lemmas.List.Elements.{All-nil, All-cons, All-append}
use Rattle.std.specs.List.{flat_map}
use Rattle.scut_base.specs.Literal.{Literal}
use Rattle.pb_lin.specs.Constraint.{ConstraintValue, negation, opposite, size}
use Rattle.pb_lin.specs.Problem.{ProblemValue}
use Rattle.proof_laws.specs.Refusal.{IsGoalFault, IsFirstGoalFault, fault_unless, size_fault, range_fault, written, image_variables, proof_variables}
use Rattle.proof_laws.specs.declared.goal.Goal.{Goal}
use Rattle.proof_laws.specs.declared.goal.GoalProof.{GoalProof}
use Rattle.proof_laws.specs.declared.why.Why.TheVariants.{AfterEnd, LogLong}
use Rattle.proof_laws.proofs.Conditions.{no_fault, no_first, no_range_fault, no_size_fault}
use Rattle.proof_laws.specs.Substituted.{dominance, none_risen, has_fallen, touched_hold}
use Rattle.proof_laws.specs.State.{numbered}
use Rattle.harden.specs.Hardened.{falsified, false_image, fixing, row_proofs, stays_open, strict_proof, dom_line}
use Rattle.harden.specs.Laws.{DomLinesAreLegal}
use Rattle.harden.proofs.Tests.{fixed_costs, costs_some}
use Rattle.harden.proofs.RowProofs.{kept, proofs_of}
use Rattle.harden.proofs.GoalFaults.{no_faults}
use Rattle.harden.proofs.RowGoals.{rows_closed}
use Rattle.harden.proofs.CostGoals.{costs_closed}
use Rattle.harden.proofs.StrictGoals.{strict_closed}

-- no row's proof writes a variable
pub no_row_variables : (l : Literal) (rows : List (ℕ × ConstraintValue)) (rest : List (Goal × GoalProof)) → flat_map (λ q. proof_variables q.1) (row_proofs l rows ++ rest) ≡ flat_map (λ q. proof_variables q.1) rest
no_row_variables l [] rest = refl
no_row_variables l (e ∷ rows) rest = by (stays_open (opposite l) e.1) (no_row_variables l rows rest)
  where
    by : (b : Bool) → flat_map (λ q. proof_variables q.1) (row_proofs l rows ++ rest) ≡ flat_map (λ q. proof_variables q.1) rest
        → flat_map (λ q. proof_variables q.1) (proofs_of (cond b (e ∷ kept l rows) (kept l rows)) ++ rest) ≡ flat_map (λ q. proof_variables q.1) rest
    by true more = more
    by false more = more

written_upto : (p : ProblemValue) (l : Literal) (n : ℕ) → l.var ≤ n → All (λ v. v ≤ n) (written (dom_line p l))
written_upto p l n upto = All-cons (λ v. v ≤ n) l.var (flat_map image_variables (falsified l) ++ flat_map (λ q. proof_variables q.1) (row_proofs l (numbered 1 p.rows) ++ strict_proof)) upto
    (subst (λ (vs : List ℕ). All (λ v. v ≤ n) (flat_map image_variables (falsified l) ++ vs)) (sym (no_row_variables l (numbered 1 p.rows) strict_proof)) (by l.neg))
  where
    by : (b : Bool) → All (λ v. v ≤ n) (flat_map image_variables ((l.var, false_image b) ∷ []) ++ flat_map (λ q. proof_variables q.1) strict_proof)
    by true = All-cons (λ v. v ≤ n) l.var [] upto (All-nil (λ v. v ≤ n))
    by false = All-cons (λ v. v ≤ n) l.var [] upto (All-nil (λ v. v ≤ n))

pub dom_law : DomLinesAreLegal
dom_law p s l problem fits open_ room from_one upto can costs =
    let only = fixed_costs p l can in
    let some = costs_some l p.costs (λ k d short. let row = problem.cost_rows k d short in row.positive) costs in
    let proofs = row_proofs l (numbered 1 p.rows) ++ strict_proof in
    let vars = fits.vars in
    let goals = All-append (λ q. IsGoalFault s (fixing l) proofs q None) (touched_hold (falsified l) (numbered 1 p.rows)) (none_risen (falsified l) 1 p.costs ++ (has_fallen (falsified l) p ∷ []))
    (rows_closed p s l strict_proof problem fits from_one can)
    (All-append (λ q. IsGoalFault s (fixing l) proofs q None) (none_risen (falsified l) 1 p.costs) (has_fallen (falsified l) p ∷ [])
    (costs_closed s (fixing l) proofs l from_one 1 p.costs problem.cost_rows only)
    (All-cons (λ q. IsGoalFault s (fixing l) proofs q None) (has_fallen (falsified l) p) [] (strict_closed p s l problem from_one (omega arith) only some) (All-nil (λ q. IsGoalFault s (fixing l) proofs q None)))) in
    let upto_state : l.var ≤ s.vars = omega arith in
    no_first (fault_unless (not s.ended) AfterEnd) _ None (no_fault (not s.ended) AfterEnd (ap not open_))
    (no_first (fault_unless (nat_lt s.lines (2 ^ 61)) LogLong) _ None (no_fault (nat_lt s.lines (2 ^ 61)) LogLong (lt-ltb s.lines (2 ^ 61) room))
    (no_first (range_fault s.vars (written (dom_line p l))) _ None (no_range_fault s.vars (written (dom_line p l)) (written_upto p l s.vars upto_state))
    (no_first (size_fault (size (negation (fixing l)))) (IsFirstGoalFault s (fixing l) proofs (dominance p (falsified l))) None (no_size_fault (size (negation (fixing l))) (omega arith))
    (no_faults s (fixing l) proofs (dominance p (falsified l)) goals))))
