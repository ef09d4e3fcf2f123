use Rattle.std.proofs.Common.{subst}
use Rattle.command_check_models.specs.Words.{ModelsAsked}
use Rattle.command_models.specs.Gathering.{IsWritingStop}
use Rattle.command_models.specs.Table.{AreWritten}
use Rattle.command_models.proofs.ModelsEnds.{all_listed, writing_stopped}
use Rattle.command_models.proofs.Models.gather.Goals as goal

pub returns-in-Err : goal.returns-in-Err
returns-in-Err g c =
    let before = g.H.Shelf.world c.args.shelf.now in
    let after = g.H.Shelf.world c.write_all.new.shelf in
    let e = c.in-Err.ensures in
    let stop : IsWritingStop c.in-Err.fault before.files after.files c.args.self.now c.args.inst.now c.args.problem.now c.args.entries.now before.faults after.faults =
    subst (λ (a : ModelsAsked). IsWritingStop c.in-Err.fault before.files after.files a c.args.inst.now c.args.problem.now c.args.entries.now before.faults after.faults) c.self.view_is e.stop in
    rw c.from.ensures
    (record {
      answered = writing_stopped c.args.self.now before after c.args.inst.now c.args.entries.now c.args.problem.now c.requires e.said e.later c.in-Err.fault stop;
      warned = e.warned;
    })

pub returns : goal.returns
returns g c =
    let before = g.H.Shelf.world c.args.shelf.now in
    let mid = g.H.Shelf.world c.write_all.new.shelf in
    let e = c.in-Ok.ensures in
    let written : AreWritten before.files mid.files c.args.self.now c.args.inst.now c.args.problem.now c.args.entries.now =
    subst (λ (a : ModelsAsked). AreWritten before.files mid.files a c.args.inst.now c.args.problem.now c.args.entries.now) c.self.view_is e.written in
    all_listed c.args.self.now before mid c.args.inst.now c.args.entries.now c.args.problem.now c.requires e.said e.later (g.H.Shelf.world c.say.new.shelf) c.say.result written e.warned c.say.ensures
