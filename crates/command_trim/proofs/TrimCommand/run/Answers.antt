use Rattle.command_base.proofs.Answered.{earlier, listed_stopped}
use Rattle.command_trim.specs.Table.{TrimTable, trim_calls}
use Rattle.command_trim.specs.Words.{asked}
use Rattle.command_trim.proofs.TrimEnds.{reads_input, reads_list, takes_listed}
use Rattle.command_trim.proofs.TrimCommand.run.Goals as goal

pub returns-in-Err : goal.returns-in-Err
returns-in-Err g c =
    let a = asked c.args.self.now in
    rw c.from.ensures
    (listed_stopped (TrimTable a) (trim_calls a) a.format a.input a.list c.in-Err.stop (g.H.Shelf.world c.args.shelf.now) (g.H.Shelf.world c.read_listed.new.shelf) (takes_listed a _ _) (reads_input a) (reads_list a) c.in-Err.ensures.stop c.in-Err.ensures.only_reads)

pub returns-in-Ok : goal.returns-in-Ok
returns-in-Ok g c =
    let a = asked c.args.self.now in
    earlier (TrimTable a) (trim_calls a) _ (g.H.Shelf.world c.args.shelf.now) (g.H.Shelf.world c.read_listed.new.shelf) _ c.in-Ok.ensures.only_reads c.judge.ensures
