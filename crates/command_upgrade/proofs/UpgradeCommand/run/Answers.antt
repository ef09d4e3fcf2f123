use Rattle.std.proofs.Common.{subst}
use Rattle.command_base.specs.Inputs.{IsInput}
use Rattle.command_base.specs.Stops.{IsInputStop}
use Rattle.command_base.proofs.Answered.{earlier, input_stopped}
use Rattle.command_upgrade.specs.Table.{UpgradeTable, upgrade_calls}
use Rattle.command_upgrade.specs.Words.{UpgradeAsked}
use Rattle.command_upgrade.proofs.UpgradeEnds.{reads_input, takes_input}
use Rattle.command_upgrade.proofs.UpgradeCommand.run.Goals as goal

pub write-requires : goal.write-requires
write-requires g c =
    let files = (g.H.Shelf.world c.args.shelf.now).files in
    let read = c.in-Ok.input in
    rw c.in-Ok.ensures.only_reads.files (subst (λ (b : UpgradeAsked). IsInput files b.format b.input read.inst read.problem) c.self.view_is c.in-Ok.ensures.read)

pub returns-in-Err : goal.returns-in-Err
returns-in-Err g c =
    let a : UpgradeAsked = c.args.self.now in
    let before = g.H.Shelf.world c.args.shelf.now in
    let after = g.H.Shelf.world c.read_input.new.shelf in
    rw c.from.ensures
    (input_stopped (UpgradeTable a) (upgrade_calls a) a.format a.input c.in-Err.stop before after (takes_input a _ _) (reads_input a)
    (subst (λ (b : UpgradeAsked). IsInputStop b.format b.input c.in-Err.stop before.files before.faults after.faults) c.self.view_is c.in-Err.ensures.stop)
    c.in-Err.ensures.only_reads)

pub returns-in-Ok : goal.returns-in-Ok
returns-in-Ok g c =
    let a : UpgradeAsked = c.args.self.now in
    earlier (UpgradeTable a) (upgrade_calls a) _ (g.H.Shelf.world c.args.shelf.now) (g.H.Shelf.world c.read_input.new.shelf) _ c.in-Ok.ensures.only_reads c.write.ensures
