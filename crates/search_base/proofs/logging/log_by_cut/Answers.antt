use Rattle.std.proofs.Common.{◌≡◌, arith, refl, sym, subst}
use Rattle.proof_laws.specs.Refusal.{literals_at}
use Rattle.proof_laws.specs.WellFormed.{AreRisingLiterals, IsId, IsWellFormed}
use Rattle.proof_laws.specs.declared.line.Line.TheVariants.{Sol}
use Rattle.proof_laws.proofs.ModelLiterals.{model_variables}
use Rattle.std.specs.Prelude.{All}
use Rattle.search_base.proofs.ModelLines.{judged_goes_on}
use Rattle.search_base.proofs.TakenLines.{judged_taken, none_taken}
use Rattle.search_base.proofs.Turning.{goes_again}
use Rattle.search_base.proofs.logging.log_by_cut.Goals as goal

pub returns-then-not-is_spelled-clause-goes_on : goal.returns-then-not-is_spelled-clause-goes_on
returns-then-not-is_spelled-clause-goes_on g c =
    let R = g.R.Recorder in
    goes_again (R.seen c.args.rec.now)

pub returns-in_err-line-clause-goes_on : goal.returns-in_err-line-clause-goes_on
returns-in_err-line-clause-goes_on g c =
    let R = g.R.Recorder in
    goes_again (R.seen c.args.rec.now)

pub add_legal-requires-clause-formed : goal.add_legal-requires-clause-formed
add_legal-requires-clause-formed g c =
    let is : c.in_ok-line.line ≡ Sol (literals_at 1 c.args.model.now) c.args.cut c.args.rows =
    rw c.in_ok-line.ensures.ok at c.line_by_cut.ensures in
    let spelled = c.is_spelled.ensures.0 c.if-not-is_spelled.false in
    let size = c.requires.model.variables in
    let most = c.requires.problem.variables in
    subst IsWellFormed (sym is) (
      model_variables 1 c.args.model.now (omega arith) (omega arith),
      subst AreRisingLiterals c.as_slice.ensures spelled.0,
      subst (All IsId) c.as_slice-2.ensures spelled.1,
    )

pub returns-clause-goes_on : goal.returns-clause-goes_on
returns-clause-goes_on g c =
    let R = g.R.Recorder in
    let a = R.seen c.args.rec.now in
    let b = R.seen c.add_legal.new.rec in
    let done = c.add_legal.ensures in
    judged_goes_on a b c.in_ok-line.line _ _ _ c.add_legal.result
    (rw c.in_ok-line.ensures.ok at c.line_by_cut.ensures) done.keeps done.added done.kept

pub returns-then-not-is_spelled-clause-lines : goal.returns-then-not-is_spelled-clause-lines
returns-then-not-is_spelled-clause-lines g c =
    let R = g.R.Recorder in
    let a = R.seen c.args.rec.now in
    none_taken a.lines a.lines refl

pub returns-in_err-line-clause-lines : goal.returns-in_err-line-clause-lines
returns-in_err-line-clause-lines g c =
    let R = g.R.Recorder in
    let a = R.seen c.args.rec.now in
    none_taken a.lines a.lines refl

pub returns-clause-lines : goal.returns-clause-lines
returns-clause-lines g c =
    let R = g.R.Recorder in
    let a = R.seen c.args.rec.now in
    let b = R.seen c.add_legal.new.rec in
    let done = c.add_legal.ensures in
    judged_taken a b c.in_ok-line.line _ _ _ c.add_legal.result
    (rw c.in_ok-line.ensures.ok at c.line_by_cut.ensures) done.added done.kept
