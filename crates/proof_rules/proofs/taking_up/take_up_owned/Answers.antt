use Rattle.proof_laws.specs.Steps.{with_learned, with_line}
use Rattle.proof_laws.specs.declared.line.Line.TheVariants.{Rup, Learn, Red, Dom}
use Rattle.std.proofs.Common.{refl}
use Rattle.proof_rules.proofs.TakingUp.{next_state}
use Rattle.proof_rules.proofs.taking_up.take_up_owned.Goals as goal

pub add-requires : goal.add-requires
add-requires c =
    next_state c.args.problem.now c.args.reached.now c.args.line c.requires.before c.requires.legal (Rup c.in-Rup.goal c.in-Rup.hints) (with_line c.args.reached.now c.in-Rup.goal) c.in-Rup.is refl

pub learn-requires : goal.learn-requires
learn-requires c =
    next_state c.args.problem.now c.args.reached.now c.args.line c.requires.before c.requires.legal (Learn c.in-Learn.goal c.in-Learn.hints) (with_learned c.args.reached.now c.in-Learn.goal) c.in-Learn.is refl

pub add-requires-in-Red : goal.add-requires-in-Red
add-requires-in-Red c =
    next_state c.args.problem.now c.args.reached.now c.args.line c.requires.before c.requires.legal (Red c.in-Red.goal c.in-Red.witness c.in-Red.proofs) (with_line c.args.reached.now c.in-Red.goal) c.in-Red.is refl

pub add-requires-in-Dom : goal.add-requires-in-Dom
add-requires-in-Dom c =
    next_state c.args.problem.now c.args.reached.now c.args.line c.requires.before c.requires.legal (Dom c.in-Dom.goal c.in-Dom.witness c.in-Dom.proofs) (with_line c.args.reached.now c.in-Dom.goal) c.in-Dom.is refl
