use Rattle.std.proofs.Common.{subst}
use Rattle.command_base.specs.Inputs.{IsInput}
use Rattle.command_base.specs.Stops.{IsInputStop}
use Rattle.command_base.proofs.Answered.{earlier, input_stopped}
use Rattle.command_elaborate.specs.Table.{ElaborateTable, elaborate_calls}
use Rattle.command_elaborate.specs.Words.{ElaborateAsked}
use Rattle.command_elaborate.proofs.ElaborateEnds.{reads_input, takes_input}
use Rattle.command_elaborate.proofs.ElaborateCommand.run.Goals as goal

pub begin-requires : goal.begin-requires
begin-requires g c =
    let files = (g.H.Shelf.world c.args.shelf.now).files in
    let read = c.in-Ok.input in
    rw c.in-Ok.ensures.only_reads.files (subst (λ (b : ElaborateAsked). IsInput files b.format b.input read.inst read.problem) c.self.view_is c.in-Ok.ensures.read)

pub returns-in-Err : goal.returns-in-Err
returns-in-Err g c =
    let a : ElaborateAsked = c.args.self.now in
    let before = g.H.Shelf.world c.args.shelf.now in
    let after = g.H.Shelf.world c.read_input.new.shelf in
    rw c.from.ensures
    (input_stopped (ElaborateTable a) (elaborate_calls a) a.format a.input c.in-Err.stop before after (takes_input a _ _) (reads_input a)
    (subst (λ (b : ElaborateAsked). IsInputStop b.format b.input c.in-Err.stop before.files before.faults after.faults) c.self.view_is c.in-Err.ensures.stop)
    c.in-Err.ensures.only_reads)

pub returns-in-Ok : goal.returns-in-Ok
returns-in-Ok g c =
    let a : ElaborateAsked = c.args.self.now in
    earlier (ElaborateTable a) (elaborate_calls a) _ (g.H.Shelf.world c.args.shelf.now) (g.H.Shelf.world c.read_input.new.shelf) _ c.in-Ok.ensures.only_reads c.begin.ensures
