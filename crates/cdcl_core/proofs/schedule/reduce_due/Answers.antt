use Rattle.cdcl_core.proofs.Schedules.{reduce_fits, reduce_law}
use Rattle.cdcl_core.proofs.schedule.reduce_due.Goals as goal

pub overflow_mul-result : goal.overflow_mul-result
overflow_mul-result c = reduce_fits c.args.done c.if-done-lt-REDUCTIONS.true

pub returns-then-done-lt-REDUCTIONS : goal.returns-then-done-lt-REDUCTIONS
returns-then-done-lt-REDUCTIONS c = reduce_law c.args.learned c.args.done c.if-done-lt-REDUCTIONS.true
