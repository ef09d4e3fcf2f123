use Rattle.pb_lin.specs.Given.{given_of}
use Rattle.cutting_planes.proofs.Runs.{run_begins}
use Rattle.cutting_planes.proofs.steps.apply_first.Goals as goal

pub returns-then-run-gt0 : goal.returns-then-run-gt0
returns-then-run-gt0 c = (
  c.if-run-gt0.true,
  c.weakening_run-run.ensures.bound,
  run_begins (given_of c.args.lines.now c.args.negated c.args.denied) c.args.tokens.now c.weakening_run-run.result c.args.stack.now c.weaken.new.stack c.weakening_run-run.ensures.bound c.weakening_run-run.ensures.weakening c.in_ok-weaken.ensures.1,
)
