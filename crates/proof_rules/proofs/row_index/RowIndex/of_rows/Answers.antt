use Rattle.std.proofs.Common.{rules, ◌<◌, get_or, arith, subst, sym}
use Rattle.std.proofs.lemmas.List.Sorted.{IsNonDecreasingBy-from_sort_by_key}
use Rattle.pb_lin.specs.Constraint.{literals}
use Rattle.proof_rules.specs.RowIndex.{AreEntered, AreInOrder, RowEntries}
use Rattle.proof_rules.proofs.RowEntries.{entered_sorted, rows_entered_more}
use Rattle.proof_rules.proofs.row_index.RowIndex.of_rows.Goals as goal

pub loop-at-preserved : goal.loop-at-preserved
loop-at-preserved c =
    rows_entered_more c.loop-at.entries.items c.enter.new.entries.items c.args.rows.now c.loop-at.at c.index-rows-at.result c.literals.result.now
    c.loop-at-test.true c.index-rows-at.is c.literals.ensures.value c.in_ok-enter.ensures c.loop-at.invariant

pub returns-clause-rows : goal.returns-clause-rows
returns-clause-rows c = record {
  in_order = subst AreInOrder (sym c.from_vec.ensures) (IsNonDecreasingBy-from_sort_by_key (λ e. e.0) _ c.sort_unstable_by_key.ensures.sorted (λ a r q k. search rules));
  within = omega arith;
  entered = λ k d few.
      let lits = literals (get_or c.args.rows.now k d).terms in
      let before : k < c.loop-at.at = omega arith in
      subst (λ (es : RowEntries). AreEntered es k lits) (sym c.from_vec.ensures)
      (entered_sorted c.loop-at.entries.items c.sort_unstable_by_key.new.self.items k lits c.sort_unstable_by_key.ensures.permutation (c.loop-at.invariant k d before));
}
