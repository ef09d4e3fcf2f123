use Rattle.std.proofs.Common.{◌∙◌}
use Rattle.proof_rules.proofs.Definitions.{opposite_more}
use Rattle.proof_rules.proofs.definition.opposite_terms.Goals as goal

pub loop-at-preserved : goal.loop-at-preserved
loop-at-preserved c =
    c.in_ok-push.ensures.ok
    ∙ opposite_more c.args.sum.now.terms c.loop-at.terms c.loop-at.at c.term-term.result c.not.result c.loop-at.invariant c.term-term.ensures c.not.ensures.var c.not.ensures.neg
