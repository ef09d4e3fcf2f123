use Rattle.std.proofs.Common.{◌≡◌, ◌≤◌, List, length, arith, subst, sym, ap}
use Rattle.pb_lin.specs.Constraint.{ConstraintValue}
use Rattle.proof_laws.specs.State.{IsState}
use Rattle.proof_rules.specs.RowIndex.{IsIndex, IsRowIndex}
use Rattle.proof_rules.specs.declared.row_index.RowIndex.{RowIndex}
use Rattle.proof_rules.proofs.IndexKept.{index_of_rows, touched_on_ok}
use Rattle.proof_rules.proofs.Untouched.{no_images, no_places_touched}
use Rattle.proof_rules.proofs.judging.touched_rows.Goals as goal
use Rattle.proof_rules.proofs.judging.touched_rows.Goals.{then-index-rows+in_ok-index, else-index-rows}

pub returns-clause-rows : goal.returns-clause-rows
returns-clause-rows c = λ before. elim c.if-index-rows.branch [
  | then-index-rows+in_ok-index w ↦ subst (λ (i : RowIndex). IsRowIndex i.count i.entries c.args.problem.now.rows) (sym w.index-is)
      (subst (λ (cs : List ConstraintValue). IsRowIndex w.in_ok-index.field-0.count w.in_ok-index.field-0.entries cs) c.rows-rows.ensures w.in_ok-index.ensures.rows)
  | else-index-rows w ↦ subst (λ (i : RowIndex). IsRowIndex i.count i.entries c.args.problem.now.rows) (sym w.index-is) before
]

pub returns-clause-index : goal.returns-clause-index
returns-clause-index c = elim c.if-index-rows.branch [
  | then-index-rows+in_ok-index w ↦ (
      let state : IsState c.args.reached.now = subst IsState c.reached.view_is c.reached.invariant in
      subst (λ (i : RowIndex). IsIndex i.count i.entries c.args.reached.now) (sym w.index-is)
      (index_of_rows c.args.problem.now c.args.reached.now w.in_ok-index.field-0.count w.in_ok-index.field-0.entries state c.requires.fits
      (subst (λ (cs : List ConstraintValue). IsRowIndex w.in_ok-index.field-0.count w.in_ok-index.field-0.entries cs) c.rows-rows.ensures w.in_ok-index.ensures.rows)))
  | else-index-rows w ↦ subst (λ (i : RowIndex). IsIndex i.count i.entries c.args.reached.now) (sym w.index-is) c.requires.index
]

pub returns-clause-touched : goal.returns-clause-touched
returns-clause-touched c =
    let rows : length c.rows-rows.result.now ≡ length c.args.problem.now.rows = ap (λ (cs : List ConstraintValue). length cs) c.rows-rows.ensures in
    let long : length c.rows-rows.result.now ≤ c.if-index-rows.index.count = elim c.if-index-rows.branch [
      | then-index-rows+in_ok-index w ↦ (let count = w.in_ok-index.ensures.count in let same = ap (λ (i : RowIndex). i.count) w.index-is in omega arith)
      | else-index-rows w ↦ (let same = ap (λ (i : RowIndex). i.count) w.index-is in omega arith)
    ] in
    touched_on_ok (λ v. v.items) c.args.problem.now c.args.reached.now c.args.witness.now c.if-index-rows.index.count (length c.rows-rows.result.now) c.if-index-rows.index.entries c.touched.result
    c.requires.fits (returns-clause-index c) (omega arith) rows c.touched.ensures.rising c.touched.ensures.within c.touched.ensures.all

pub returns-then-is_empty-clause-touched : goal.returns-then-is_empty-clause-touched
returns-then-is_empty-clause-touched c =
    let none = no_images c.images.result.now c.args.witness.now c.is_empty.result c.images.ensures.value c.is_empty.ensures c.if-is_empty.true in
    no_places_touched c.args.witness.now c.args.problem.now.rows c.new.result.items none c.new.ensures.items
