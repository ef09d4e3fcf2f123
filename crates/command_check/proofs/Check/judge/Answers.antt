use Rattle.command_base.specs.Judging.{judged_by}
use Rattle.command_check.specs.Words.{asked}
use Rattle.command_check.proofs.CheckEnds.{all_accepted, log_stopped}
use Rattle.command_check.proofs.Check.judge.Goals as goal

pub returns-in-Err : goal.returns-in-Err
returns-in-Err g c =
    let w = g.H.Shelf.world in
    let l = c.args.listed.now in
    rw c.from.ensures
    (log_stopped (asked c.args.self.now) (w c.args.shelf.now) (w c.take_log.new.shelf) l.input.inst l.input.problem l.entries c.requires.listed (judged_by c.args.checker.now) c.requires.by c.in-Err.ensures.only_reads c.in-Err.stop c.in-Err.ensures.stop)

pub returns-in-Ok : goal.returns-in-Ok
returns-in-Ok g c =
    let w = g.H.Shelf.world in
    let l = c.args.listed.now in
    all_accepted (asked c.args.self.now) (w c.args.shelf.now) (w c.take_log.new.shelf) l.input.inst l.input.problem l.entries c.requires.listed (judged_by c.args.checker.now) c.requires.by c.in-Ok.ensures.only_reads (w c.say.new.shelf) c.say.result c.in-Ok.ensures.passes c.say.ensures
