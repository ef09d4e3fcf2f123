use Rattle.std.proofs.Common.{◌+◌, ap, ◌∙◌, arith}
use Rattle.cutting_planes.specs.Runs.{weakened_variable}
use Rattle.cutting_planes.proofs.Runs.{run_more}
use Rattle.cutting_planes.proofs.weaken.clear_all.Goals as goal

pub loop-token-preserved : goal.loop-token-preserved
loop-token-preserved c = record {
  value = λ degree. run_more c.args.run.now c.loop-token.token-index c.token-item.result c.weakened_variable.result c.loop-token.terms c.clear-gone.new.terms c.loop-token.lost (c.loop-token.lost + c.clear-gone.result.0) degree _ (omega arith) (c.weakened_variable.ensures ∙ ap weakened_variable c.token-item.is) c.clear-gone.ensures.kept (omega arith) (c.loop-token.invariant.value degree);
  rising = c.clear-gone.ensures.rising;
  small = omega arith;
}
