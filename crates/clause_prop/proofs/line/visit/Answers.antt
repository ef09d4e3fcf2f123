use Rattle.clause_prop.proofs.Extensions.{extends_none}
use Rattle.clause_prop.proofs.line.visit.Goals as goal

pub returns-then-slack-lt0-clause-extends : goal.returns-then-slack-lt0-clause-extends
returns-then-slack-lt0-clause-extends c = λ store there. extends_none store c.args.trail.now
