use Rattle.cdcl_trail.proofs.Ranks.{push_raises, propagation_raises}
use Rattle.cdcl_trail.proofs.rank.steps_raise_rank.Goals as goal

pub returns-clause-one : goal.returns-clause-one
returns-clause-one c = push_raises

pub returns-clause-kept : goal.returns-clause-kept
returns-clause-kept c = propagation_raises
