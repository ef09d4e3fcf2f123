use Rattle.std.specs.Prelude.{map, string_bytes}
use Rattle.command_base.proofs.Answered.{wanted}
use Rattle.command_base.proofs.command.run_unwarned.Goals as goal

pub returns-in-Err : goal.returns-in-Err
returns-in-Err g c = wanted g.C.Command.table g.C.Command.own g.C.Command.undone (g.C.Command.asked_by (map string_bytes c.args.words.now)) (g.H.Shelf.world c.args.shelf.now)
