-- What a state and its problem keep from line to line.
use Rattle.std.proofs.Common.{◌≡◌, ◌⊎◌, ℕ, ◌+◌, ◌<◌, ◌≤◌, true, false, cond, Some, None, List, [], ◌∷◌, length, arith, sym, subst, ◌∙◌, inl, inr, ⊎_elim}
use Rattle.std.specs.Ordering.{nat_cmp, eq_by_cmp}
use Rattle.std.specs.Cmp.{nat_cmp_total, unsigned_tied}
use Rattle.std.specs.FinMap.{get, insert, get-insert, get-empty}
use Rattle.std.proofs.lemmas.Bool.{cases_Bool, cond-true, cond-false, eqb-true}
use Rattle.std.proofs.lemmas.List.Elements.{All-nil, All-contains}
use Rattle.pb_lin.specs.Constraint.{ConstraintValue, IsNormal, TermsUpTo}
use Rattle.pb_lin.specs.LineMap.{LineMap, lines_of}
use Rattle.pb_lin.specs.Problem.{ProblemValue, IsProblem}
use Rattle.proof_laws.specs.State.{StateValue, IsState, Fits, numbered, start}
use Rattle.proof_laws.proofs.Semantics.{IsWithin}
use Rattle.proof_laws.proofs.Live.{live_numbered}
use Rattle.proof_laws.proofs.KeptWithin.{start_rows_live}

-- a problem and a state that fits it speak of their own variables
pub fits_within : (p : ProblemValue) (s : StateValue) → IsProblem p → IsState s → Fits p s → IsWithin p s
fits_within p s problem state fits = record {
  vars = fits.vars;
  rows = λ k d short i t less. ((problem.normal_rows k d short).merged.from_one i t less, problem.row_variables k d short i t less);
  costs = λ k d short i t less. ((problem.cost_rows k d short).from_one i t less, problem.cost_variables k d short i t less);
  live = λ id c is i t less. ((state.normal id c is).merged.from_one i t less, state.variables id c is i t less);
}

-- a line of the map with one more is that one, or was there
pub inserted_cases : (lines : LineMap) (id i : ℕ) (c d : ConstraintValue) → get (insert lines id c) i ≡ Some d → ((i ≡ id) × (c ≡ d)) ⊎ (get lines i ≡ Some d)
inserted_cases lines id i c d is =
    let found : cond (eq_by_cmp nat_cmp i id) (Some c) (get lines i) ≡ Some d = sym (get-insert nat_cmp_total lines id c i) ∙ is in
    ⊎_elim
    (λ (here : eq_by_cmp nat_cmp i id ≡ true).
    let same : Some c ≡ Some d = sym (cond-true (eq_by_cmp nat_cmp i id) (Some c) (get lines i) here) ∙ found in
    let one : c ≡ d = cc in
    inl (eqb-true i id (sym (unsigned_tied i id) ∙ here), one))
    (λ (other : eq_by_cmp nat_cmp i id ≡ false). inr (sym (cond-false (eq_by_cmp nat_cmp i id) (Some c) (get lines i) other) ∙ found))
    (cases_Bool (eq_by_cmp nat_cmp i id))

-- what holds of the new line under its id and of all old ones under theirs holds of all
pub live_insert_at : (P : ℕ → ConstraintValue → Type 0) (lines : LineMap) (id : ℕ) (c : ConstraintValue) → P id c → ((i : ℕ) (d : ConstraintValue) → get lines i ≡ Some d → P i d) → (i : ℕ) (d : ConstraintValue) → get (insert lines id c) i ≡ Some d → P i d
live_insert_at P lines id c new kept i d is = ⊎_elim
    (λ (same : (i ≡ id) × (c ≡ d)). subst (λ (j : ℕ). P j d) (sym same.0) (subst (λ (e : ConstraintValue). P id e) same.1 new))
    (λ (old : get lines i ≡ Some d). kept i d old)
    (inserted_cases lines id i c d is)

-- ---- the start

numbered_ids : (n : ℕ) (cs : List ConstraintValue) (id : ℕ) (c : ConstraintValue) → get (lines_of (numbered n cs)) id ≡ Some c → (n ≤ id) × (id < n + length cs)
unfolding lines_of
numbered_ids n [] id c is = absurd (let none = get-empty {X = ConstraintValue} nat_cmp id in let never : None ≡ Some c = sym none ∙ is in cc)
numbered_ids n (d ∷ cs) id c is = live_insert_at (λ i e. (n ≤ i) × (i < n + length (d ∷ cs))) (lines_of (numbered (n + 1) cs)) n d (omega arith, omega arith)
    (λ i e found. let later = numbered_ids (n + 1) cs i e found in (omega arith, omega arith)) id c is

pub start_is_state : (p : ProblemValue) → IsProblem p → IsState (start p)
start_is_state p problem = record {
  ids = λ id c is. let w = numbered_ids 1 p.rows id c is in (omega arith, omega arith);
  normal = λ id c is. All-contains (λ d. IsNormal d.terms d.degree) p.rows c problem.normal_rows (live_numbered 1 p.rows id c is);
  variables = λ id c is. All-contains (λ d. TermsUpTo p.vars d.terms) p.rows c problem.row_variables (live_numbered 1 p.rows id c is);
  first_id = omega arith;
  next_id = let few = problem.count in omega arith;
  vars = let few = problem.variables in omega arith;
  learned = omega arith;
  lines = omega arith;
  ended = λ e. absurd (let never : false ≡ true = e in cc);
}

pub start_fits_problem : (p : ProblemValue) → Fits p (start p)
start_fits_problem p = record { rows = start_rows_live p; vars = omega arith; sols = All-nil (λ v. length v ≡ length p.costs) }
