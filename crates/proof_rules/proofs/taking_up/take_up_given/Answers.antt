use Rattle.std.proofs.Common.{List, ap, refl}
use Rattle.scut_base.specs.Literal.{Literal}
use Rattle.pb_lin.specs.Problem.{problem_costs}
use Rattle.proof_laws.specs.Steps.{with_definition, with_learned, with_line, with_solution, without_lines}
use Rattle.proof_laws.specs.Refusal.{assignment_of}
use Rattle.proof_laws.specs.declared.line.Line.TheVariants.{Rup, Learn, Def, Red, Dom, Sol, Del, Reduce}
use Rattle.proof_rules.proofs.TakingUp.{next_state, sum_upto}
use Rattle.proof_rules.proofs.taking_up.take_up_given.Goals as goal

pub add-requires : goal.add-requires
add-requires c =
    next_state c.args.problem.now c.args.reached.now c.args.line.now c.requires.before c.requires.legal (Rup c.in-Rup.goal c.in-Rup.hints) (with_line c.args.reached.now c.in_ok-copy-in-Rup.field-0) c.in-Rup.is (ap (with_line c.args.reached.now) c.in_ok-copy-in-Rup.ensures)

pub learn-requires : goal.learn-requires
learn-requires c =
    next_state c.args.problem.now c.args.reached.now c.args.line.now c.requires.before c.requires.legal (Learn c.in-Learn.goal c.in-Learn.hints) (with_learned c.args.reached.now c.in_ok-copy-in-Learn.field-0) c.in-Learn.is (ap (with_learned c.args.reached.now) c.in_ok-copy-in-Learn.ensures)

pub define-requires-clause-variables : goal.define-requires-clause-variables
define-requires-clause-variables c = sum_upto c.args.problem.now c.args.reached.now c.args.line.now c.requires.before c.requires.legal c.in-Def.var c.in-Def.sum c.in-Def.is

pub define-requires-clause-next : goal.define-requires-clause-next
define-requires-clause-next c =
    next_state c.args.problem.now c.args.reached.now c.args.line.now c.requires.before c.requires.legal (Def c.in-Def.var c.in-Def.sum) (with_definition c.args.reached.now c.in-Def.sum) c.in-Def.is refl

pub add-requires-in-Red : goal.add-requires-in-Red
add-requires-in-Red c =
    next_state c.args.problem.now c.args.reached.now c.args.line.now c.requires.before c.requires.legal (Red c.in-Red.goal c.in-Red.witness c.in-Red.proofs) (with_line c.args.reached.now c.in_ok-copy-in-Red.field-0) c.in-Red.is (ap (with_line c.args.reached.now) c.in_ok-copy-in-Red.ensures)

pub add-requires-in-Dom : goal.add-requires-in-Dom
add-requires-in-Dom c =
    next_state c.args.problem.now c.args.reached.now c.args.line.now c.requires.before c.requires.legal (Dom c.in-Dom.goal c.in-Dom.witness c.in-Dom.proofs) (with_line c.args.reached.now c.in_ok-copy-in-Dom.field-0) c.in-Dom.is (ap (with_line c.args.reached.now) c.in_ok-copy-in-Dom.ensures)

pub log-requires-clause-next : goal.log-requires-clause-next
log-requires-clause-next c =
    let logged = λ (model : List Literal). with_solution c.args.reached.now c.in-Sol.cut (problem_costs c.args.problem.now (assignment_of model)) in
    next_state c.args.problem.now c.args.reached.now c.args.line.now c.requires.before c.requires.legal (Sol c.in-Sol.model c.in-Sol.cut c.in-Sol.rows) (logged c.as_slice.result.now) c.in-Sol.is (ap logged c.as_slice.ensures)

pub delete-requires : goal.delete-requires
delete-requires c =
    next_state c.args.problem.now c.args.reached.now c.args.line.now c.requires.before c.requires.legal (Del c.in-Del.ids) (without_lines c.args.reached.now c.as_slice-in-Del.result.now) c.in-Del.is (ap (without_lines c.args.reached.now) c.as_slice-in-Del.ensures)

pub delete-requires-in-Reduce : goal.delete-requires-in-Reduce
delete-requires-in-Reduce c =
    next_state c.args.problem.now c.args.reached.now c.args.line.now c.requires.before c.requires.legal (Reduce c.in-Reduce.ids) (without_lines c.args.reached.now c.as_slice-in-Reduce.result.now) c.in-Reduce.is (ap (without_lines c.args.reached.now) c.as_slice-in-Reduce.ensures)
