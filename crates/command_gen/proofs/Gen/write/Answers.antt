use Rattle.std.proofs.Common.{ap}
use Rattle.std.specs.Prelude.{Err}
use Rattle.command_gen.specs.Words.{asked}
use Rattle.command_gen.proofs.GenEnds.{done, writing_stopped}
use Rattle.command_gen.proofs.Gen.write.Goals as goal

pub returns-in-Err : goal.returns-in-Err
returns-in-Err g c =
    let w = g.H.Shelf.world in
    let e = c.in-Err.ensures in
    rw c.from.ensures
    (record {
      answered = writing_stopped (asked c.args.self.now) (w c.args.shelf.now) (w c.args.shelf.now) (w c.write_text.new.shelf) _ c.requires.text c.in-Err.fault e.err e.said (λ failed. e.failed (ap Err failed)) e.later;
      warned = e.warned;
    })

pub returns-in-Ok : goal.returns-in-Ok
returns-in-Ok g c =
    let w = g.H.Shelf.world in
    let e = c.in-Ok.ensures in
    done (asked c.args.self.now) (w c.args.shelf.now) (w c.write_text.new.shelf) (w c.say.new.shelf) _ c.requires.text c.say.result c.requires.spelled e.ok e.said e.warned e.later c.say.ensures
