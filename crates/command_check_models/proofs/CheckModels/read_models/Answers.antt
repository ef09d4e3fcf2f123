use Rattle.std.proofs.Common.{◌∙◌, ap, subst, List, ℕ}
use Rattle.command_base.proofs.Answered.{earlier}
use Rattle.command_check_models.specs.Judging.{IsReadingStop}
use Rattle.command_check_models.specs.Table.{CheckModelsTable, check_models_calls}
use Rattle.command_check_models.specs.Words.{ModelsAsked}
use Rattle.command_check_models.proofs.ModelsEnds.{text_stopped}
use Rattle.command_check_models.proofs.CheckModels.read_models.Goals as goal

pub returns-in-Err : goal.returns-in-Err
returns-in-Err g c =
    let before = g.H.Shelf.world c.args.shelf.now in
    let after = g.H.Shelf.world c.read_all_models.new.shelf in
    let stop : IsReadingStop c.in-Err.stop before.files c.args.self.now.base before.faults after.faults =
    subst (λ (base : List ℕ). IsReadingStop c.in-Err.stop before.files base before.faults after.faults)
    (c.base.ensures ∙ ap (λ (a : ModelsAsked). a.base) c.self.view_is) c.in-Err.ensures.stop in
    rw c.from.ensures
    (record {
      answered = text_stopped c.args.self.now before after c.in-Err.ensures.only_reads c.args.inst.now c.args.entries.now c.args.problem.now c.requires c.in-Err.stop stop;
      warned = c.in-Err.ensures.only_reads.warned;
    })

pub returns-in-Ok : goal.returns-in-Ok
returns-in-Ok g c =
    let w = g.H.Shelf.world in
    let a = c.args.self.now in
    earlier (CheckModelsTable a) (check_models_calls a) _ (w c.args.shelf.now) (w c.read_all_models.new.shelf) _ c.in-Ok.ensures.only_reads c.judge.ensures
