use Rattle.std.proofs.Common.{◌∙◌}
use Rattle.command_check_models.proofs.Judged.{ended_by, stopped_by}
use Rattle.command_check_models.proofs.judging.take_ended.Goals as goal

pub returns-in-Ok-clause-ended : goal.returns-in-Ok-clause-ended
returns-in-Ok-clause-ended g c =
    ended_by (g.H.Shelf.world c.args.shelf.now).files c.args.log.now c.args.problem.now _ _ c.in-Ok.ensures.problem (c.in-Ok.ensures.vectors ∙ c.new.ensures) c.take_log.result c.take_log.ensures.passes

pub returns-in-Ok-clause-stop : goal.returns-in-Ok-clause-stop
returns-in-Ok-clause-stop g c =
    stopped_by (g.H.Shelf.world c.args.shelf.now).files c.args.log.now c.args.problem.now _ _ c.in-Ok.ensures.problem (c.in-Ok.ensures.vectors ∙ c.new.ensures) c.take_log.result _ _ c.take_log.ensures.stop
