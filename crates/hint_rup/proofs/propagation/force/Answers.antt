use Rattle.std.proofs.Common.{arith, rules}
use Rattle.hint_rup.proofs.ForcedLiterals.{forced_none}
use Rattle.hint_rup.proofs.propagation.force.Goals as goal

pub returns-then-line_slack-gt0-clause-forced : goal.returns-then-line_slack-gt0-clause-forced
returns-then-line_slack-gt0-clause-forced c = forced_none c.args.scratch.now c.args.line.now c.args.line_slack (c.is_cardinality.ensures.0 (search rules)) c.requires.slack (omega arith)
