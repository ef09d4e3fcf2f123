-- The goals of the problem's rows.
use Rattle.std.proofs.Common.{◌≡◌, ℕ, ◌+◌, ◌<◌, ◌≤◌, ◌==◌, zero, suc, Bool, true, false, not, cond, None, Some, List, [], ◌∷◌, ◌++◌, length, get_or, refl, ap, sym, subst, ◌∙◌, ⊎_elim, arith, Ok, pos, ◌-ℤ◌}
use Rattle.std.specs.Prelude.{option_map}
use Rattle.std.specs.List.{All, filter, find}
use Rattle.std.specs.FinMap.{get}
use Rattle.std.proofs.lemmas.Bool.{cond-true, cond-false, eq-eqb, ne_eqb, cases_lt, lt-ltb}
use Rattle.std.proofs.lemmas.Int.{ints, clamps}
use Rattle.std.proofs.lemmas.List.Elements.{All-map, All-filter}
use Rattle.std.proofs.lemmas.List.Kept.{AllPairs-filter}
use Rattle.scut_base.specs.Literal.{Literal}
use Rattle.scut_base.proofs.Lists.{all_filter_if}
use Rattle.pb_lin.specs.Constraint.{ConstraintValue, IsNormal, negation, opposite, total}
use Rattle.pb_lin.specs.Problem.{ProblemValue, IsProblem}
use Rattle.pb_lin.specs.Substitution.{touches}
use Rattle.pb_lin.proofs.OppositeTerms.{total-opposite}
use Rattle.cutting_planes.specs.Rules.{weakened}
use Rattle.proof_laws.specs.State.{StateValue, Fits, numbered}
use Rattle.proof_laws.specs.Substituted.{IsGoalOf, holds_after, touched_hold}
use Rattle.proof_laws.specs.Refusal.{fault_unless, same_goal, IsGoalFault}
use Rattle.proof_laws.specs.declared.goal.Goal.{Goal}
use Rattle.proof_laws.specs.declared.goal.Goal.TheVariants.{Row}
use Rattle.proof_laws.specs.declared.goal.GoalProof.{GoalProof}
use Rattle.proof_laws.specs.declared.goal.GoalProof.TheVariants.{Pol as ByPol}
use Rattle.proof_laws.specs.declared.why.Why.TheVariants.{GoalOpen}
use Rattle.harden.specs.Hardened.{can_fix, falsified, fixing, row_proof, row_proofs, row_tokens, stays_open}
use Rattle.harden.specs.Laws.{OnlyAs, coefficient}
use Rattle.harden.proofs.Splitting.{others, split_total, under_value, opposite_truth}
use Rattle.harden.proofs.Refuting.{refuted}
use Rattle.harden.proofs.Tests.{fixed_rows, has_variable, left_open, touched_some}
use Rattle.harden.proofs.GoalFaults.{closed, proved}
use Rattle.harden.proofs.RowProofs.{kept, proofs_of}

-- ---- the rows by number

numbered_length : (n : ℕ) (rows : List ConstraintValue) → length (numbered n rows) ≡ length rows
numbered_length n [] = refl
numbered_length n (c ∷ rows) = let rest = numbered_length (n + 1) rows in omega arith

pair_same : (m n : ℕ) (c : ConstraintValue) → m ≡ n → ◌≡◌ {A = ℕ × ConstraintValue} (m, c) (n, c)
pair_same m n c e = ap (λ (k : ℕ). (k, c)) e

numbered_at : (n k : ℕ) (rows : List ConstraintValue) (d : ℕ × ConstraintValue) → k < length rows → get_or (numbered n rows) k d ≡ (n + k, get_or rows k d.1)
numbered_at n k [] d short = absurd (omega arith)
numbered_at n zero (c ∷ rows) d short = pair_same n (n + 0) c (omega arith)
numbered_at n (suc k) (c ∷ rows) d short = numbered_at (n + 1) k rows d (omega arith) ∙ pair_same ((n + 1) + k) (n + suc k) (get_or rows k d.1) (omega arith)

-- ---- the proof of a row's goal

row_found : (l : Literal) (n : ℕ) (rows : List ConstraintValue) (rest : List (Goal × GoalProof)) (k : ℕ) (d : ConstraintValue) → k < length rows → stays_open (opposite l) (get_or rows k d) ≡ true
    → (id : ℕ) → id ≡ n + k → find (λ q. same_goal (Row id) q.0) (row_proofs l (numbered n rows) ++ rest) ≡ Some (row_proof id)
row_found l n [] rest k d short left id e = absurd (omega arith)
row_found l n (c ∷ rows) rest zero d short left id e =
    ap (λ (b : Bool). find (λ q. same_goal (Row id) q.0) (proofs_of (cond b ((n, c) ∷ kept l (numbered (n + 1) rows)) (kept l (numbered (n + 1) rows))) ++ rest)) left
    ∙ cond-true (same_goal (Row id) (Row n)) (Some (row_proof n)) (find (λ q. same_goal (Row id) q.0) (row_proofs l (numbered (n + 1) rows) ++ rest)) (eq-eqb id n (omega arith))
    ∙ ap (λ (m : ℕ). Some (row_proof m)) (omega arith)
row_found l n (c ∷ rows) rest (suc k) d short left id e =
    by (stays_open (opposite l) c) (row_found l (n + 1) rows rest k d (omega arith) left id (omega arith))
  where
    by : (b : Bool) → find (λ q. same_goal (Row id) q.0) (row_proofs l (numbered (n + 1) rows) ++ rest) ≡ Some (row_proof id)
        → find (λ q. same_goal (Row id) q.0) (proofs_of (cond b ((n, c) ∷ kept l (numbered (n + 1) rows)) (kept l (numbered (n + 1) rows))) ++ rest) ≡ Some (row_proof id)
    by true more = cond-false (same_goal (Row id) (Row n)) (Some (row_proof n)) (find (λ q. same_goal (Row id) q.0) (row_proofs l (numbered (n + 1) rows) ++ rest)) (ne_eqb id n (λ same. omega arith)) ∙ more
    by false more = more

-- ---- the goal

module _ (l : Literal) (name : Goal) (c : ConstraintValue) (normal : IsNormal c.terms c.degree) (only : OnlyAs (opposite l) c.terms) where
  abbrev pub left : ConstraintValue
  left = weakened l.var c

  pub left_goal : IsGoalOf left (holds_after (falsified l) name c)
  left_goal = (
    record {
      merged = record {
        positive = All-filter (λ t. not (t.0.var == l.var)) (λ t. 0 < t.1) c.terms normal.merged.positive;
        from_one = All-filter (λ t. not (t.0.var == l.var)) (λ t. 0 < t.0.var) c.terms normal.merged.from_one;
        rising = AllPairs-filter (λ t u. t.0.var < u.0.var) (λ t. not (t.0.var == l.var)) c.terms normal.merged.rising;
      };
      small = let split = split_total l.var c.terms in let small = normal.small in omega arith;
    },
    record {
      least = pos c.degree -ℤ pos (coefficient l.var c.terms);
      same = λ x. let under = under_value l (opposite l) c.terms x true refl (opposite_truth l x) only in omega (arith, ints);
      degree = omega (arith, ints, clamps);
    },
  )

module _ (p : ProblemValue) (s : StateValue) (l : Literal) (rest : List (Goal × GoalProof)) (problem : IsProblem p) (fits : Fits p s) (from_one : 0 < l.var) (can : can_fix p l ≡ true) where
  abbrev pub proofs : List (Goal × GoalProof)
  proofs = row_proofs l (numbered 1 p.rows) ++ rest

  abbrev pub HasNone : ℕ × ConstraintValue → Type 0
  HasNone e = IsGoalFault s (fixing l) proofs (holds_after (falsified l) (Row e.0) e.1) None

  pub at_row : (k : ℕ) (d : ConstraintValue) → k < length p.rows → touches (falsified l) (get_or p.rows k d) ≡ true → HasNone (1 + k, get_or p.rows k d)
  at_row k d short touched =
      let c = get_or p.rows k d in
      let normal = problem.normal_rows k d short in
      let small = problem.row_sizes k d short in
      let only = fixed_rows p l can k d short in
      let some = touched_some l c normal.merged.positive touched in
      ⊎_elim
      (λ (open_ : coefficient l.var c.terms < c.degree).
      let refutes = refuted s (1 + k) c (negation (fixing l)) (opposite l) (subst (λ (id : ℕ). get s.live id ≡ Some c) (omega arith) (fits.rows k d short)) from_one normal small only some open_ in
      let found = row_found l 1 p.rows rest k d short (left_open l c.degree c.terms only (has_variable l c.terms touched) open_) (1 + k) refl in
      let split = split_total l.var c.terms in
      let all = total-opposite (others l.var c.terms) in
      proved s (fixing l) proofs (holds_after (falsified l) (Row (1 + k)) c) (left l (Row (1 + k)) c normal only) (ByPol (row_tokens (1 + k))) (omega arith) (left_goal l (Row (1 + k)) c normal only) (omega arith)
      (ap (option_map (λ (q : Goal × GoalProof). q.1)) found) (omega arith)
      (Ok refutes.0, refutes.1, sym (ap (λ (b : Bool). fault_unless b (GoalOpen (Row (1 + k)))) (lt-ltb (total refutes.0.terms) refutes.0.degree refutes.2))))
      (λ (closed_ : c.degree ≤ coefficient l.var c.terms).
      closed s (fixing l) proofs (holds_after (falsified l) (Row (1 + k)) c) (left l (Row (1 + k)) c normal only) (omega arith) (left_goal l (Row (1 + k)) c normal only) (omega arith))
      (cases_lt (coefficient l.var c.terms) c.degree)

  pub rows_closed : All (λ q. IsGoalFault s (fixing l) proofs q None) (touched_hold (falsified l) (numbered 1 p.rows))
  rows_closed = All-map (λ q. IsGoalFault s (fixing l) proofs q None) (λ e. holds_after (falsified l) (Row e.0) e.1) (filter (λ e. touches (falsified l) e.1) (numbered 1 p.rows))
      (all_filter_if HasNone (λ e. touches (falsified l) e.1) (numbered 1 p.rows) (λ k d short touched.
      let inside : k < length p.rows = let long = numbered_length 1 p.rows in omega arith in
      let is = numbered_at 1 k p.rows d inside in
      subst HasNone (sym is) (at_row k d.1 inside (ap (λ (e : ℕ × ConstraintValue). touches (falsified l) e.1) (sym is) ∙ touched))))
