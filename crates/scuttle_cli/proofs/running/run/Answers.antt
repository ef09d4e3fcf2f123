use Rattle.scuttle_cli.proofs.Answered.{completes, only_usage, usage, warned_partly}
use Rattle.scuttle_cli.proofs.running.run.Goals as goal

pub returns-clause-usage : goal.returns-clause-usage
returns-clause-usage g c = usage _ _ _ _ c.run_named-status.ensures.answered

pub returns-clause-only_usage : goal.returns-clause-only_usage
returns-clause-only_usage g c = only_usage _ _ _ _ c.run_named-status.ensures.answered

pub returns-clause-complete : goal.returns-clause-complete
returns-clause-complete g c = completes _ _ _ _ c.run_named-status.ensures.answered

pub returns-clause-warned : goal.returns-clause-warned
returns-clause-warned g c = warned_partly _ _ _ _ c.run_named-status.ensures.warned
