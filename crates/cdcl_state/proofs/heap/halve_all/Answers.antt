use Rattle.std.proofs.Common.{◌/◌, ℕ, get_or, arith}
use Rattle.std.proofs.lemmas.List.{get_or_default}
use Rattle.std.proofs.lemmas.List.Edits.{map_over_more}
use Rattle.cdcl_state.proofs.heap.halve_all.Goals as goal

pub loop-number-preserved : goal.loop-number-preserved
loop-number-preserved c =
    let ys = c.loop-number.numbers in
    let at = c.loop-number.number-index in
    map_over_more (λ (a : ℕ). a / 2) c.args.numbers.now ys at (get_or ys at 0) (omega arith) c.loop-number.invariant (get_or_default ys at 0 (get_or ys at 0) (omega arith))
