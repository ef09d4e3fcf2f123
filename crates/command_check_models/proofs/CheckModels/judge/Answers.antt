use Rattle.std.proofs.Common.{subst}
use Rattle.command_check_models.specs.Entries.{AreLogsTakenFrom, AreRightFrom}
use Rattle.command_check_models.specs.Judging.{IsJudgingStop}
use Rattle.command_check_models.specs.Words.{ModelsAsked}
use Rattle.command_check_models.proofs.ModelsEnds.{all_accepted, entry_stopped}
use Rattle.command_check_models.proofs.CheckModels.judge.Goals as goal

pub returns-in-Err : goal.returns-in-Err
returns-in-Err g c =
    let before = g.H.Shelf.world c.args.shelf.now in
    let after = g.H.Shelf.world c.judge_entries.new.shelf in
    let stop : IsJudgingStop c.in-Err.stop before.files c.args.self.now c.args.inst.now c.args.problem.now c.args.entries.now c.args.reps.now before.faults after.faults =
    subst (λ (a : ModelsAsked). IsJudgingStop c.in-Err.stop before.files a c.args.inst.now c.args.problem.now c.args.entries.now c.args.reps.now before.faults after.faults) c.self.view_is c.in-Err.ensures.stop in
    rw c.from.ensures
    (record {
      answered = entry_stopped c.args.self.now before after c.in-Err.ensures.only_reads c.args.inst.now c.args.entries.now c.args.problem.now c.requires.posed c.args.reps.now c.requires.read c.in-Err.stop stop;
      warned = c.in-Err.ensures.only_reads.warned;
    })

pub returns-in-Ok : goal.returns-in-Ok
returns-in-Ok g c =
    let w = g.H.Shelf.world in
    let before = w c.args.shelf.now in
    let right : AreRightFrom before.files c.args.self.now c.args.inst.now c.args.problem.now 1 c.args.entries.now c.args.reps.now =
    subst (λ (a : ModelsAsked). AreRightFrom before.files a c.args.inst.now c.args.problem.now 1 c.args.entries.now c.args.reps.now) c.self.view_is c.in-Ok.ensures.right in
    let taken : AreLogsTakenFrom before.files c.args.self.now 1 c.args.reps.now = subst (λ (a : ModelsAsked). AreLogsTakenFrom before.files a 1 c.args.reps.now) c.self.view_is c.in-Ok.ensures.taken in
    all_accepted c.args.self.now before (w c.judge_entries.new.shelf) (w c.say.new.shelf) c.args.inst.now c.args.entries.now c.args.problem.now c.requires.posed c.args.reps.now c.requires.read right taken c.in-Ok.ensures.only_reads c.say.result c.say.ensures
