use Rattle.std.proofs.Common.{◌∙◌, ap}
use Rattle.command_base.proofs.Answered.{earlier, listed_stopped}
use Rattle.command_check_models.specs.Words.{ModelsAsked}
use Rattle.command_check_models.proofs.ModelsEnds.{posed_by, stop_by}
use Rattle.command_models.specs.Table.{ModelsTable, models_calls}
use Rattle.command_models.proofs.ModelsEnds.{reads_input, reads_list, takes_listed}
use Rattle.command_models.proofs.ModelsCommand.run.Goals as goal

pub gather-requires : goal.gather-requires
gather-requires g c =
    let w = g.H.Shelf.world in
    let a : ModelsAsked = c.args.self.now in
    let is = c.self.view_is in
    posed_by a (w c.args.shelf.now).files (w c.read_listed.new.shelf).files c.format.result c.input.result.now c.list.result.now c.in-Ok.listed c.as_slice-entries.result.now c.in-Ok.ensures.only_reads.files
    (c.format.ensures ∙ ap (λ (r : ModelsAsked). r.format) is) (c.input.ensures ∙ ap (λ (r : ModelsAsked). r.input) is) (c.list.ensures ∙ ap (λ (r : ModelsAsked). r.list) is) c.as_slice-entries.ensures c.in-Ok.ensures.read

pub returns-in-Err : goal.returns-in-Err
returns-in-Err g c =
    let w = g.H.Shelf.world in
    let a : ModelsAsked = c.args.self.now in
    let is = c.self.view_is in
    rw c.from.ensures
    (listed_stopped (ModelsTable a) (models_calls a) a.format a.input a.list c.in-Err.stop (w c.args.shelf.now) (w c.read_listed.new.shelf) (takes_listed a _ _) (reads_input a) (reads_list a)
    (stop_by a c.format.result c.input.result.now c.list.result.now c.in-Err.stop (w c.args.shelf.now) (w c.read_listed.new.shelf)
    (c.format.ensures ∙ ap (λ (r : ModelsAsked). r.format) is) (c.input.ensures ∙ ap (λ (r : ModelsAsked). r.input) is) (c.list.ensures ∙ ap (λ (r : ModelsAsked). r.list) is) c.in-Err.ensures.stop)
    c.in-Err.ensures.only_reads)

pub returns-in-Ok : goal.returns-in-Ok
returns-in-Ok g c =
    let a = c.args.self.now in
    earlier (ModelsTable a) (models_calls a) _ (g.H.Shelf.world c.args.shelf.now) (g.H.Shelf.world c.read_listed.new.shelf) _ c.in-Ok.ensures.only_reads c.gather.ensures
