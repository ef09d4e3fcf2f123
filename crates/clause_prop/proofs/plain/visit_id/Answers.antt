use Rattle.clause_prop.proofs.Extensions.{extends_none}
use Rattle.clause_prop.proofs.plain.visit_id.Goals as goal

pub returns-in-None-clause-extends : goal.returns-in-None-clause-extends
returns-in-None-clause-extends c = extends_none c.args.store.now c.args.trail.now
