use Rattle.std.proofs.Common.{sym, ◌∙◌, ap}
use Rattle.std.specs.FinMap.{get}
use Rattle.pb_lin.specs.LineMap.{LineMap}
use Rattle.command_elaborate.proofs.Taken.{taken_if}
use Rattle.command_elaborate.proofs.taking.take_line.Goals as goal

pub returns-in-Some-clause-ok : goal.returns-in-Some-clause-ok
returns-in-Some-clause-ok g c = taken_if c.take.result _ _ _ _ _ _ (ap (λ (m : LineMap). get m c.args.id) (sym c.live.ensures) ∙ c.in-Some.ensures) c.requires.taken c.take.ensures.ok
