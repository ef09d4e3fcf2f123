use Rattle.proof_rules.proofs.Conditions.{dom_images, dom_upto, learn_upto, red_images, red_upto, rup_upto}
use Rattle.proof_rules.proofs.judging.judge_rule.Goals as goal

pub judge_rup-requires-clause-goal : goal.judge_rup-requires-clause-goal
judge_rup-requires-clause-goal c = rup_upto c.args.reached.now.vars c.args.line.now c.in-Rup.goal c.in-Rup.hints c.in-Rup.is c.requires.written

pub judge_learn-requires-clause-goal : goal.judge_learn-requires-clause-goal
judge_learn-requires-clause-goal c = learn_upto c.args.reached.now.vars c.args.line.now c.in-Learn.goal c.in-Learn.hints c.in-Learn.is c.requires.written

pub judge_red-requires-clause-goal : goal.judge_red-requires-clause-goal
judge_red-requires-clause-goal c = red_upto c.args.reached.now.vars c.args.line.now c.in-Red.goal c.in-Red.witness c.in-Red.proofs c.in-Red.is c.requires.written

pub judge_red-requires-clause-images : goal.judge_red-requires-clause-images
judge_red-requires-clause-images c =
    red_images c.args.reached.now.vars c.args.line.now c.in-Red.goal c.in-Red.witness c.in-Red.proofs c.in-Red.is c.requires.before.formed c.requires.written

pub judge_dom-requires-clause-goal : goal.judge_dom-requires-clause-goal
judge_dom-requires-clause-goal c = dom_upto c.args.reached.now.vars c.args.line.now c.in-Dom.goal c.in-Dom.witness c.in-Dom.proofs c.in-Dom.is c.requires.written

pub judge_dom-requires-clause-images : goal.judge_dom-requires-clause-images
judge_dom-requires-clause-images c =
    dom_images c.args.reached.now.vars c.args.line.now c.in-Dom.goal c.in-Dom.witness c.in-Dom.proofs c.in-Dom.is c.requires.before.formed c.requires.written
