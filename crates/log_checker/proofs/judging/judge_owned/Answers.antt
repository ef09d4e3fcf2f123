use Rattle.std.proofs.lemmas.Result.{err_from_is_err_and}
use Rattle.log_checker.proofs.Stepping.{line_reason, covered_on, refused_on}
use Rattle.log_checker.proofs.judging.judge_owned.Goals as goal

pub returns-in_err-step_owned-clause-refused : goal.returns-in_err-step_owned-clause-refused
returns-in_err-step_owned-clause-refused c =
    let p = err_from_is_err_and c.from_residual.result c.from_residual.ensures.1 in
    rw (p.1, p.2) (line_reason c.args.problem.now c.args.vectors.now c.args.state.now c.args.line c.in_err-step_owned.field-0.0 c.in_err-step_owned.ensures.refused)

pub returns-clause-covered : goal.returns-clause-covered
returns-clause-covered c = covered_on c.args.vectors.now c.args.problem.now c.args.state.now c.args.line c.step_owned.new.self c.sols-logged.result.now c.sols.result.now c.in_ok-step_owned.ensures.next c.sols-logged.ensures c.sols.ensures c.judge_logged.result c.judge_logged.ensures.covered

pub returns-clause-refused : goal.returns-clause-refused
returns-clause-refused c = refused_on c.args.vectors.now c.args.problem.now c.args.state.now c.args.line c.step_owned.new.self c.sols-logged.result.now c.sols.result.now c.in_ok-step_owned.ensures.next c.sols-logged.ensures c.sols.ensures c.judge_logged.result c.judge_logged.ensures.refused
