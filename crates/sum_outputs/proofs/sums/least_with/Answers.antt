-- From the place on the sums rise.
use Rattle.sum_outputs.proofs.SumLists.{least_at_place}
use Rattle.sum_outputs.proofs.sums.least_with.Goals as goal

pub returns-then-place-outputs : goal.returns-then-place-outputs
returns-then-place-outputs c = least_at_place c.args.base c.args.k c.args.outputs.now c.place_of-place.result c.index-outputs-place.result c.requires.rising c.if-k-base.false c.place_of-place.ensures c.if-place-outputs.true
