use Rattle.std.proofs.Common.{ap}
use Rattle.std.specs.Prelude.{Err}
use Rattle.command_front.specs.Words.{asked}
use Rattle.command_front.proofs.FrontEnds.{complete, writing_stopped}
use Rattle.command_front.proofs.Front.write.Goals as goal

pub returns-in-Err : goal.returns-in-Err
returns-in-Err g c =
    let w = g.H.Shelf.world in
    let e = c.in-Err.ensures in
    rw c.from.ensures
    (record {
      answered = writing_stopped (asked c.args.self.now) (w c.args.shelf.now) (w c.args.shelf.now) (w c.write_lines.new.shelf) _ _ c.requires.front c.requires.lines c.in-Err.fault e.err e.said (λ failed. e.failed (ap Err failed)) e.later;
      warned = e.warned;
    })

pub returns : goal.returns
returns g c =
    let w = g.H.Shelf.world in
    let e = c.in-Ok.ensures in
    complete (asked c.args.self.now) (w c.args.shelf.now) (w c.write_lines.new.shelf) (w c.say.new.shelf) _ _ c.requires.front c.requires.lines c.say.result e.ok e.said e.warned e.later c.say.ensures
