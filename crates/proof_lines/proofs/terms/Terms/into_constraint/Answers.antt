use Rattle.std.proofs.Common.{refl}
use Rattle.proof_lines.proofs.TermLists.{ones_rise, ones_small}
use Rattle.proof_lines.proofs.terms.Terms.into_constraint.Goals as goal

pub at_least-requires-clause-rising : goal.at_least-requires-clause-rising
at_least-requires-clause-rising c = ones_rise c.self.inside.lits c.self.inside.others c.args.self c.args.degree c.self.view_is (c.if-is_empty.ensures.0 refl) c.requires

pub at_least-requires-clause-small : goal.at_least-requires-clause-small
at_least-requires-clause-small c = ones_small c.self.inside.lits c.self.inside.others c.args.self c.args.degree c.self.view_is (c.if-is_empty.ensures.0 refl) c.requires
