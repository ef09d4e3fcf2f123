use Rattle.std.proofs.Common.{◌<◌, ap, ◌∙◌}
use Rattle.pb_lin.specs.Substitution.{Images, has_image}
use Rattle.proof_rules.proofs.RowEntries.{found_all, found_more, kept_once, rising_once, within_once}
use Rattle.proof_rules.proofs.row_index.RowIndex.touched.Goals as goal

pub loop-image-preserved : goal.loop-image-preserved
loop-image-preserved c = record {
  within = c.in_ok-push_places.ensures.within c.loop-image.invariant.within;
  found = found_more c.images-images.result.now c.args.self.now.entries c.as_slice.result.now c.args.rows c.loop-image.image-index c.image-item.result c.loop-image.places.items c.push_places.new.places.items
      c.loop-image-test.true c.image-item.is c.as_slice.ensures c.in_ok-push_places.ensures.kept c.in_ok-push_places.ensures.pushed c.loop-image.invariant.found;
}

pub returns-clause-rising : goal.returns-clause-rising
returns-clause-rising c = rising_once c.loop-image.places.items c.sort_unstable.new.self.items c.dedup.new.self.items c.sort_unstable.ensures.permutation c.sort_unstable.ensures.sorted c.dedup.ensures.filtered

pub returns-clause-within : goal.returns-clause-within
returns-clause-within c =
    within_once c.loop-image.places.items c.sort_unstable.new.self.items c.dedup.new.self.items c.sort_unstable.ensures.permutation c.sort_unstable.ensures.sorted c.dedup.ensures.filtered
    (λ k. k < c.args.rows) c.loop-image.invariant.within

pub returns-clause-all : goal.returns-clause-all
returns-clause-all c = λ var k has few there.
    kept_once c.loop-image.places.items c.sort_unstable.new.self.items c.dedup.new.self.items c.sort_unstable.ensures.permutation c.sort_unstable.ensures.sorted c.dedup.ensures.filtered
    k (found_all c.images-images.result.now c.args.self.now.entries c.args.rows c.loop-image.image-index c.loop-image.places.items c.loop-image-test.false c.loop-image.invariant.found
    var k (ap (λ (w : Images). has_image w var) c.images-images.ensures.value ∙ has) few there)
