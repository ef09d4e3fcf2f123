use Rattle.cdcl_core.proofs.Schedules.{due_law}
use Rattle.cdcl_core.proofs.schedule.restart_due.Goals as goal

pub returns-then-done-lt-RESTARTS : goal.returns-then-done-lt-RESTARTS
returns-then-done-lt-RESTARTS c = due_law c.args.since c.args.done c.if-done-lt-RESTARTS.true
