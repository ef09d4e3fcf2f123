use Rattle.std.proofs.Common.{ℕ, ◌-◌, arith, ap}
use Rattle.std.proofs.lemmas.Option.{get_or_from_slice_get}
use Rattle.scut_base.specs.Literal.{Literal}
use Rattle.pb_lin.specs.Cover.{coefficient}
use Rattle.pb_lin.proofs.AtPlace.{sum_place, sum_place-le}
use Rattle.pb_lin.proofs.cover.greatest_excess.Goals as goal

pub overflow_add-excess : goal.overflow_add-excess
overflow_add-excess c =
    let less = sum_place-le (λ t. t.1) c.args.left.now.terms c.loop-at.at c.term-term.result c.term-term.ensures in
    let small = c.len-at-end.ensures.normal.small in
    let bound = c.loop-at.invariant.bound in
    omega (arith, c.saturating_sub-excess.ensures)

pub loop-at-preserved : goal.loop-at-preserved
loop-at-preserved c = record {
  excess =
      let more = sum_place (λ t. t.1 - coefficient c.args.right.now.terms t.0) c.args.left.now.terms c.loop-at.at c.term-term.result c.term-term.ensures in
      omega (arith, c.saturating_sub-excess.ensures, c.coefficient_at.ensures, c.loop-at.invariant.excess);
  bound =
      let more = sum_place (λ t. t.1) c.args.left.now.terms c.loop-at.at c.term-term.result c.term-term.ensures in
      omega (arith, c.saturating_sub-excess.ensures, c.loop-at.invariant.bound);
  within = c.place_from-place.ensures.bound;
  below = λ j k d from within before.
      let same = ap (λ (t : Literal × ℕ). t.0.var) (get_or_from_slice_get c.args.left.now.terms c.loop-at.at c.term-term.result d c.term-term.ensures) in
      let lower = c.place_from-place.ensures.below k d before in
      let rise = c.len-at-end.ensures.normal.merged.rising c.loop-at.at j d (omega arith) within in
      omega (arith, c.var.ensures.value);
}
