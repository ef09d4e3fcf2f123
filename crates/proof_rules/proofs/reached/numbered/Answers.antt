use Rattle.pb_lin.specs.LineMap.{lines_of}
use Rattle.proof_rules.proofs.reached.numbered.Goals as goal

pub loop-at-init : goal.loop-at-init
unfolding lines_of
loop-at-init c = c.new-lines.ensures
