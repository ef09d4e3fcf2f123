use Rattle.std.specs.Prelude.{map, string_bytes}
use Rattle.command_base.specs.Answering.{calls_of, table_of}
use Rattle.command_base.proofs.Answered.{later_too}
use Rattle.command_base.proofs.command.run_asked.Goals as goal

pub returns-clause-answered : goal.returns-clause-answered
returns-clause-answered g c =
    let w = g.H.Shelf.world in
    let asked = g.C.Command.asked_by (map string_bytes c.args.words.now) in
    let warning = c.warn_of-warning.ensures in
    later_too (table_of g.C.Command.table asked) (calls_of g.C.Command.own asked) c.run_unwarned-status.result (w c.args.shelf.now) (w c.run_unwarned-status.new.shelf) (w c.warn_of-warning.new.shelf)
    c.run_unwarned-status.ensures.answered warning.files warning.said warning.cause.later
