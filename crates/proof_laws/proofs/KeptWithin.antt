-- What a state keeps from step to step: its variables, and the live rows.
use Rattle.std.proofs.Common.{◌≡◌, ◌≢◌, ℕ, zero, suc, ◌+◌, ◌<◌, true, false, Some, None, List, [], ◌∷◌, length, get_or, arith, ap, ◌∙◌}
use Rattle.std.specs.List.{All}
use Rattle.std.specs.Ordering.{nat_cmp, eq_by_cmp}
use Rattle.std.specs.Cmp.{nat_cmp_total, unsigned_tied}
use Rattle.std.specs.FinMap.{get, insert, get-insert, get-remove}
use Rattle.std.proofs.lemmas.Bool.{eq-eqb, ne_eqb, cond-true, cond-false}
use Rattle.pb_lin.specs.Constraint.{ConstraintValue}
use Rattle.pb_lin.specs.Problem.{ProblemValue}
use Rattle.pb_lin.specs.Substitution.{Images}
use Rattle.pb_lin.specs.LineMap.{LineMap, lines_of}
use Rattle.proof_laws.proofs.Live.{live_insert}
use Rattle.proof_laws.specs.State.{StateValue, RowsLive, numbered, start}
use Rattle.proof_laws.specs.Steps.{with_live}
use Rattle.proof_laws.proofs.Semantics.{AreWithin, IsWithin, without_line, StaysTrue}

pub line_within : (p : ProblemValue) (s : StateValue) (id : ℕ) (c : ConstraintValue) → IsWithin p s → AreWithin s.vars c.terms → IsWithin p (with_live s id c)
line_within p s id c within new = record {
  vars = within.vars;
  rows = within.rows;
  costs = within.costs;
  live = live_insert (λ d. AreWithin s.vars d.terms) s.live id c new within.live;
}

-- ---- the live rows

at_key : (i j : ℕ) → i ≡ j → eq_by_cmp nat_cmp i j ≡ true
at_key i j e = unsigned_tied i j ∙ eq-eqb i j e

at_other : (i j : ℕ) → i ≢ j → eq_by_cmp nat_cmp i j ≡ false
at_other i j ne = unsigned_tied i j ∙ ne_eqb i j ne

get_other : (lines : LineMap) (id i : ℕ) (c : ConstraintValue) → i ≢ id → get (insert lines id c) i ≡ get lines i
get_other lines id i c ne = get-insert nat_cmp_total lines id c i ∙ cond-false (eq_by_cmp nat_cmp i id) (Some c) (get lines i) (at_other i id ne)

numbered_live : (n : ℕ) (cs : List ConstraintValue) (k : ℕ) (d : ConstraintValue) → k < length cs → get (lines_of (numbered n cs)) (k + n) ≡ Some (get_or cs k d)
unfolding lines_of
numbered_live n [] k d short = absurd (omega arith)
numbered_live n (c ∷ cs) zero d short = get-insert nat_cmp_total (lines_of (numbered (n + 1) cs)) n c (0 + n) ∙ cond-true (eq_by_cmp nat_cmp (0 + n) n) (Some c) _ (at_key (0 + n) n (omega arith))
numbered_live n (c ∷ cs) (suc k) d short =
    get_other (lines_of (numbered (n + 1) cs)) n (suc k + n) c (λ e. omega arith)
    ∙ ap (get (lines_of (numbered (n + 1) cs))) (let e : suc k + n ≡ k + (n + 1) = omega arith in e)
    ∙ numbered_live (n + 1) cs k d (omega arith)

pub start_rows_live : (p : ProblemValue) → RowsLive p (start p)
start_rows_live p k d short = numbered_live 1 p.rows k d short

pub insert_rows_live : (p : ProblemValue) (s : StateValue) (id : ℕ) (c : ConstraintValue) → length p.rows < id → RowsLive p s → RowsLive p (with_live s id c)
insert_rows_live p s id c above live k d short = get_other s.live id (k + 1) c (λ e. omega arith) ∙ live k d short

pub delete_rows_live : (p : ProblemValue) (s : StateValue) (id : ℕ) → length p.rows < id → RowsLive p s → RowsLive p (without_line s id)
delete_rows_live p s id above live k d short = get-remove nat_cmp_total s.live id (k + 1) ∙ cond-false (eq_by_cmp nat_cmp (k + 1) id) None (get s.live (k + 1)) (at_other (k + 1) id (λ e. omega arith)) ∙ live k d short

pub rows_stay : (p : ProblemValue) (s : StateValue) (c : ConstraintValue) (w : Images) → RowsLive p s → ((id : ℕ) (d : ConstraintValue) → get s.live id ≡ Some d → StaysTrue p s c w d) → All (StaysTrue p s c w) p.rows
rows_stay p s c w live stays k d short = stays (k + 1) (get_or p.rows k d) (live k d short)
