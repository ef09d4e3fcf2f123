use Rattle.command_base.proofs.Answered.{earlier, input_stopped}
use Rattle.command_front.specs.Table.{FrontTable, front_calls}
use Rattle.command_front.specs.Words.{asked}
use Rattle.command_front.proofs.FrontEnds.{reads_input, takes_input}
use Rattle.command_front.proofs.FrontCommand.run.Goals as goal

pub returns-in-Err : goal.returns-in-Err
returns-in-Err g c =
    let a = asked c.args.self.now in
    rw c.from.ensures
    (input_stopped (FrontTable a) (front_calls a) a.format a.input c.in-Err.stop (g.H.Shelf.world c.args.shelf.now) (g.H.Shelf.world c.read_instance.new.shelf) (takes_input a _ _) (reads_input a) c.in-Err.ensures.stop c.in-Err.ensures.only_reads)

pub returns-in-Ok : goal.returns-in-Ok
returns-in-Ok g c =
    let a = asked c.args.self.now in
    earlier (FrontTable a) (front_calls a) _ (g.H.Shelf.world c.args.shelf.now) (g.H.Shelf.world c.read_instance.new.shelf) _ c.in-Ok.ensures.only_reads c.enumerate.ensures
