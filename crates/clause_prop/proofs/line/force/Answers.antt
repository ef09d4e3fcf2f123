use Rattle.clause_prop.proofs.Extensions.{extends_none}
use Rattle.clause_prop.proofs.line.force.Goals as goal

pub returns-then-line_slack-gt0-clause-extends : goal.returns-then-line_slack-gt0-clause-extends
returns-then-line_slack-gt0-clause-extends c = λ store there. extends_none store c.args.trail.now
