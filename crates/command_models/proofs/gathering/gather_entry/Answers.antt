-- The log's name and the number of models are those that were asked for.
use Rattle.std.proofs.Common.{ℕ, List, ap, ◌∙◌}
use Rattle.command_check_models.specs.Words.{log_name}
use Rattle.command_models.proofs.EntryGathered.{entry_gathered, entry_stopped}
use Rattle.command_models.proofs.gathering.gather_entry.Goals as goal

pub returns-in-Ok-clause-gathered : goal.returns-in-Ok-clause-gathered
returns-in-Ok-clause-gathered g c =
    let w = g.H.Shelf.world in
    let a = c.args in
    entry_gathered (w a.shelf.now) (w c.gather.new.shelf) a.request.now a.inst.now a.problem.now a.number a.entry.now c.as_str.result.now c.most-most.result c.gather.result
    (c.as_str.ensures.value ∙ c.in-Ok.ensures ∙ ap (λ (base : List ℕ). log_name base a.number) c.base.ensures) c.most-most.ensures.value c.gather.ensures

pub returns-in-Ok-clause-stop : goal.returns-in-Ok-clause-stop
returns-in-Ok-clause-stop g c =
    let w = g.H.Shelf.world in
    let a = c.args in
    entry_stopped (w a.shelf.now) (w c.gather.new.shelf) a.request.now a.inst.now a.problem.now a.number a.entry.now c.as_str.result.now c.most-most.result c.gather.result
    (c.as_str.ensures.value ∙ c.in-Ok.ensures ∙ ap (λ (base : List ℕ). log_name base a.number) c.base.ensures) c.most-most.ensures.value c.gather.ensures
