use Rattle.std.proofs.Common.{ℕ, ◌≤◌, arith, ap, slice_index_or}
use Rattle.std.proofs.lemmas.List.{get_or_read}
use Rattle.std.proofs.lemmas.List.Elements.{All-weaker}
use Rattle.std.proofs.lemmas.List.Sums.{sum_by_more}
use Rattle.scut_base.specs.Literal.{Literal}
use Rattle.pb_lin.specs.Constraint.{term_value}
use Rattle.pb_lin.proofs.normal.merged.Goals as goal

pub loop-term-preserved : goal.loop-term-preserved
loop-term-preserved c = record {
  value = λ a.
      let more = sum_by_more (term_value a) c.args.terms.now c.loop-term.term-index c.term-item.result c.loop-term-test.true in
      let here = ap (term_value a) c.term-item.is in
      let old = c.loop-term.invariant.value a in
      let new = c.in_ok-cancelled.ensures.value a in
      omega arith;
  total =
      let more = sum_by_more (λ (t : Literal × ℕ). t.1) c.args.terms.now c.loop-term.term-index c.term-item.result c.loop-term-test.true in
      let here = ap (λ (t : Literal × ℕ). t.1) c.term-item.is in
      let old = c.loop-term.invariant.total in
      let new = c.in_ok-cancelled.ensures.total in
      omega arith;
  merged = c.in_ok-cancelled.ensures.merged;
  upto = λ k d h short.
      let order = c.requires.order c.loop-term.term-index k d (omega arith) short in
      let here = ap (λ (t : Literal × ℕ). t.0.var) (get_or_read c.args.terms.now c.loop-term.term-index c.term-item.result c.loop-term-test.true c.term-item.is d) in
      All-weaker (λ (t : Literal × ℕ). t.0.var ≤ c.term-item.result.0.var) (λ (t : Literal × ℕ). t.0.var ≤ (slice_index_or c.args.terms.now k d).0.var) (λ t below. omega arith) c.push_term.new.merged c.in_ok-cancelled.ensures.upto;
}
