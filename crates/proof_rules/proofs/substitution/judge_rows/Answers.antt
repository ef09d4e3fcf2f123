use Rattle.std.proofs.Common.{◌≡◌, ℕ, ◌+◌, ◌<◌, List, [], ◌∷◌, ◌++◌, drop, length, get_or, refl, subst, sym, ◌∙◌, Ok, Err}
use Rattle.std.proofs.lemmas.Result.{err_from_is_err_and}
use Rattle.std.proofs.lemmas.List.{drop_all}
use Rattle.std.proofs.lemmas.List.Elements.{All-get_or}
use Rattle.pb_lin.specs.Constraint.{ConstraintValue}
use Rattle.pb_lin.specs.Substitution.{Images}
use Rattle.proof_laws.specs.State.{StateValue, numbered}
use Rattle.proof_laws.specs.Substituted.{Requirement, touched_hold}
use Rattle.proof_laws.specs.Refusal.{IsFirstGoalFault}
use Rattle.proof_laws.specs.declared.goal.Goal.{Goal}
use Rattle.proof_laws.specs.declared.goal.GoalProof.{GoalProof}
use Rattle.proof_rules.specs.RowIndex.{HaveTouched}
use Rattle.proof_rules.specs.Verdict.{IsVerdict}
use Rattle.proof_rules.proofs.FirstFaults.{RestDecides, decides_all, decides_more, decided_end, decided_fault}
use Rattle.proof_rules.proofs.TouchedRows.{places_more, rows_at, touched_rows}
use Rattle.proof_rules.proofs.substitution.judge_rows.Goals as goal

-- of the rows from a place of the list on, the one there comes first
row_first : (s : StateValue) (g : ConstraintValue) (ps : List (Goal × GoalProof)) (w : Images) (all : List Requirement) (rows given : List ConstraintValue) (places : List ℕ) (i : ℕ) (row : ConstraintValue) → HaveTouched w given places → rows ≡ given → i < length places → row ≡ get_or rows (get_or places i 0) row →
    RestDecides s g ps (touched_hold w (rows_at rows (drop i places))) all → RestDecides s g ps (touched_hold w ((get_or places i 0 + 1, row) ∷ []) ++ touched_hold w (rows_at rows (drop (i + 1) places))) all
row_first s g ps w all rows given places i row have same short is rest =
    let inside = All-get_or (λ k. k < length rows) places i 0 short (subst (λ (cs : List ConstraintValue). HaveTouched w cs places) (sym same) have).within in
    subst (λ (qs : List Requirement). RestDecides s g ps qs all) (places_more w rows places i (get_or places i 0) row short refl inside is) rest

pub loop-place-init : goal.loop-place-init
loop-place-init c =
    let w = c.args.line.now.witness.now in
    let rows = c.rows-rows.result.now in
    let places = c.args.line.now.touched.now in
    let all = touched_hold w (numbered 1 rows) in
    let have = subst (λ (cs : List ConstraintValue). HaveTouched w cs places) (sym c.rows-rows.ensures) c.requires.touched in
    record {
      length = refl;
      rest = subst (λ (qs : List Requirement). RestDecides c.args.reached.now c.args.line.now.goal.now c.args.line.now.proofs.now qs all) (touched_rows w rows places have)
          (decides_all c.args.reached.now c.args.line.now.goal.now c.args.line.now.proofs.now all);
    }

pub returns-in_err-judge_touched-clause-verdict : goal.returns-in_err-judge_touched-clause-verdict
returns-in_err-judge_touched-clause-verdict c =
    let s = c.args.reached.now in
    let g = c.args.line.now.goal.now in
    let ps = c.args.line.now.proofs.now in
    let w = c.args.line.now.witness.now in
    let rows = c.rows-rows.result.now in
    let places = c.args.line.now.touched.now in
    let i = c.loop-place.place-index in
    let row = c.index-rows-place.result in
    let all = touched_hold w (numbered 1 rows) in
    let here = touched_hold w ((get_or places i 0 + 1, row) ∷ []) in
    let later = touched_hold w (rows_at rows (drop (i + 1) places)) in
    let rest = row_first s g ps w all rows c.args.problem.now.rows places i row c.requires.touched c.rows-rows.ensures c.loop-place-test.true c.index-rows-place.is c.loop-place.invariant.rest in
    let e = c.in_err-judge_touched.field-0.0 in
    let fault = decided_fault s g ps here later all rest e c.in_err-judge_touched.ensures.verdict in
    let p = err_from_is_err_and c.from_residual.result c.from_residual.ensures.1 in
    rw (p.1, p.2) (subst (λ (cs : List ConstraintValue). IsVerdict {T = Unit {0}} (IsFirstGoalFault s g ps (touched_hold w (numbered 1 cs))) (Err e)) c.rows-rows.ensures fault)

pub loop-place-preserved : goal.loop-place-preserved
loop-place-preserved c =
    let s = c.args.reached.now in
    let g = c.args.line.now.goal.now in
    let ps = c.args.line.now.proofs.now in
    let w = c.args.line.now.witness.now in
    let rows = c.rows-rows.result.now in
    let places = c.args.line.now.touched.now in
    let i = c.loop-place.place-index in
    let row = c.index-rows-place.result in
    let all = touched_hold w (numbered 1 rows) in
    let here = touched_hold w ((get_or places i 0 + 1, row) ∷ []) in
    let later = touched_hold w (rows_at rows (drop (i + 1) places)) in
    let rest = row_first s g ps w all rows c.args.problem.now.rows places i row c.requires.touched c.rows-rows.ensures c.loop-place-test.true c.index-rows-place.is c.loop-place.invariant.rest in
    record {
      length = c.in_ok-judge_touched.ensures.length ∙ c.loop-place.invariant.length;
      rest = decides_more s g ps here later all rest c.in_ok-judge_touched.ensures.verdict;
    }

pub returns-clause-verdict : goal.returns-clause-verdict
returns-clause-verdict c =
    let s = c.args.reached.now in
    let g = c.args.line.now.goal.now in
    let ps = c.args.line.now.proofs.now in
    let w = c.args.line.now.witness.now in
    let rows = c.rows-rows.result.now in
    let places = c.args.line.now.touched.now in
    let all = touched_hold w (numbered 1 rows) in
    let ended = subst (λ (ks : List ℕ). RestDecides s g ps (touched_hold w (rows_at rows ks)) all) (drop_all c.loop-place.place-index places c.loop-place-test.false) c.loop-place.invariant.rest in
    subst (λ (cs : List ConstraintValue). IsVerdict {T = Unit {0}} (IsFirstGoalFault s g ps (touched_hold w (numbered 1 cs))) (Ok tt)) c.rows-rows.ensures (decided_end s g ps all ended)
