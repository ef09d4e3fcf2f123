-- What the relaxations don't tell, the oracle does.
use Rattle.std.proofs.Common.{sym, subst}
use Rattle.pb_lin.specs.Problem.{ProblemValue}
use Rattle.relaxations.specs.Wanting.{IsOf}
use Rattle.relaxations.proofs.Calls.{seeks_else}
use Rattle.relaxations.proofs.relaxations.Relaxations.ask.Goals as goal

pub ask_oracle-requires-clause-wanted : goal.ask_oracle-requires-clause-wanted
ask_oracle-requires-clause-wanted g c =
    subst (λ (p : ProblemValue). IsOf p c.args.wanted.now) (sym c.in_ok-below.ensures.seeks.goes_on.problem) c.requires.wanted

pub returns-in-None-clause-seeks : goal.returns-in-None-clause-seeks
returns-in-None-clause-seeks g c =
    let R = g.O.Recorder in
    seeks_else (R.seen c.args.oracle.now) (R.seen c.ask_linear.new.oracle) (R.seen c.ask_oracle.new.oracle)
    c.args.bounds.now c.ask_linear.new.bounds c.ask_oracle.new.bounds c.ask_oracle.result
    c.in_ok-below.ensures.seeks c.ask_oracle.ensures.seeks
