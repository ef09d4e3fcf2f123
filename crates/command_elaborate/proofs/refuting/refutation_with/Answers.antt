use Rattle.command_elaborate.proofs.With.{taken_upto, closed_with, lines_back}
use Rattle.command_elaborate.proofs.refuting.refutation_with.Goals as goal

pub take-requires-clause-undecided : goal.take-requires-clause-undecided
take-requires-clause-undecided g c = c.flat_trail_is_undecided.ensures c.args.search.now.store c.args.search.now.trail c.level-level.ensures.search c.requires.flat

pub take-requires-clause-variables : goal.take-requires-clause-variables
take-requires-clause-variables g c = taken_upto c.args.search.now.trail.vars c.args.goal.now c.in_ok-negated.negated c.in_ok-negated.ensures c.requires.within

pub returns-clause-closed : goal.returns-clause-closed
returns-clause-closed g c = closed_with c.refutation-found.result c.args.search.now c.take.new.self c.refutation-found.new.search c.args.id c.in_ok-negated.negated _ c.in_ok-take.ensures.ok c.in_ok-negated.ensures c.refutation-found.ensures.store c.refutation-found.ensures.extends c.refutation-found.ensures.closed

pub returns-clause-store : goal.returns-clause-store
returns-clause-store g c = lines_back c.args.search.now c.take.new.self c.refutation-found.new.search c.forget.new.self c.args.id c.in_ok-negated.negated c.requires.fresh c.in_ok-take.ensures.ok c.refutation-found.ensures.store c.forget.ensures.store
