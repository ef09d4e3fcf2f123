-- The answer is handed on, and its core is empty where nothing is left.
use Rattle.std.proofs.Common.{[]}
use Rattle.oracle.specs.Solving.{IsAnswer}
use Rattle.oracle.specs.declared.answer.Answer.TheVariants.{Unsat}
use Rattle.relaxations.specs.declared.below.Below.TheVariants.{End, Model}
use Rattle.relaxations.proofs.Calls.{seeks_handed, seeks_ok}
use Rattle.relaxations.proofs.Told.{told_any}
use Rattle.relaxations.proofs.seeking.oracle_any.Goals as goal

pub returns-in_err-model-clause-seeks : goal.returns-in_err-model-clause-seeks
returns-in_err-model-clause-seeks g c =
    let R = g.O.Recorder in
    let asked = c.args.bounds.now in
    seeks_handed (R.seen c.args.oracle.now) (R.seen c.solve.new.oracle) asked asked c.from_residual.result c.in_err-model.field-0.0
    c.from_residual.ensures.1 c.in_err-model.ensures.seeks

pub returns-in-Sat-clause-seeks : goal.returns-in-Sat-clause-seeks
returns-in-Sat-clause-seeks g c =
    let R = g.O.Recorder in
    let asked = c.args.bounds.now in
    let call = c.in_ok-model.ensures.seeks in
    seeks_ok (R.seen c.args.oracle.now) (R.seen c.solve.new.oracle) asked asked (Model c.in-Sat.model) (call.good tt) call.goes_on

pub returns-in-Unsat-clause-seeks : goal.returns-in-Unsat-clause-seeks
returns-in-Unsat-clause-seeks g c =
    let R = g.O.Recorder in
    let asked = c.args.bounds.now in
    let call = c.in_ok-model.ensures.seeks in
    seeks_ok (R.seen c.args.oracle.now) (R.seen c.solve.new.oracle) asked asked (End c.in-Unsat.core.id) (call.good tt) call.goes_on

pub returns-in-Unsat-clause-tells : goal.returns-in-Unsat-clause-tells
returns-in-Unsat-clause-tells g c =
    let R = g.O.Recorder in
    let a = R.seen c.args.oracle.now in
    let b = R.seen c.solve.new.oracle in
    let call = c.in_ok-model.ensures in
    let core = c.in-Unsat.core in
    let answer : IsAnswer a.problem b.lines [] (Unsat core) = rw c.in-Unsat.is at call.answer in
    told_any a b core.lits core.id call.seeks.goes_on.problem answer
