-- The last is there.
use Rattle.std.proofs.Common.{length, ◌<◌, arith}
use Rattle.std.proofs.lemmas.Bool.Decides.{nat_tests}
use Rattle.sum_outputs.proofs.Runs.{last_sum_is}
use Rattle.sum_outputs.proofs.falling.last_sum.Goals as goal

pub returns : goal.returns
returns c =
    let tested = c.if-is_empty.ensures in
    let some : 0 < length c.args.outputs.now = grind (arith, nat_tests, tested) in
    last_sum_is c.args.outputs.now _ some
