use Rattle.cdcl_state.proofs.Judging.{pushed_busy}
use Rattle.cdcl_state.proofs.implied.Implied.follow.Goals as goal

pub returns-in_err-judge-in-Implied-clause-busy : goal.returns-in_err-judge-in-Implied-clause-busy
returns-in_err-judge-in-Implied-clause-busy c n busy place verdict = c.judge.ensures.busy n busy place

pub returns-in_err-judge-in-Free-clause-busy : goal.returns-in_err-judge-in-Free-clause-busy
returns-in_err-judge-in-Free-clause-busy c n busy place verdict = c.judge-in-Free.ensures.busy n busy place

pub returns-then-left-gt0-clause-busy : goal.returns-then-left-gt0-clause-busy
returns-then-left-gt0-clause-busy c n busy place verdict =
    pushed_busy n c.args.self.now c.push.new.self c.push-then-left-gt0.new.self c.args.visit c.args.verdict c.in-Unknown.place busy place c.in-Unknown.is verdict
    (c.in_ok-push-in-Unknown.ensures).ok (c.in_ok-push-in-Unknown-2.ensures).ok

pub returns-in_err-judge-in-Unknown-clause-busy : goal.returns-in_err-judge-in-Unknown-clause-busy
returns-in_err-judge-in-Unknown-clause-busy c n busy place verdict = c.judge-in-Unknown.ensures.busy n busy place

pub returns-in_ok-judge-in-Implied-clause-busy : goal.returns-in_ok-judge-in-Implied-clause-busy
returns-in_ok-judge-in-Implied-clause-busy c n busy place verdict = c.judge.ensures.busy n busy place

pub returns-in_ok-judge-in-Free-clause-busy : goal.returns-in_ok-judge-in-Free-clause-busy
returns-in_ok-judge-in-Free-clause-busy c n busy place verdict = c.judge-in-Free.ensures.busy n busy place

pub returns-in_ok-judge-in-Unknown-clause-busy : goal.returns-in_ok-judge-in-Unknown-clause-busy
returns-in_ok-judge-in-Unknown-clause-busy c n busy place verdict = c.judge-in-Unknown.ensures.busy n busy place
