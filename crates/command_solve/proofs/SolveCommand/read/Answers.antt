use Rattle.std.proofs.Common.{◌∙◌, ap}
use Rattle.std.specs.Prelude.{map, string_bytes}
use Rattle.std.specs.Option.{option_and_then}
use Rattle.clap.specs.Words.{App}
use Rattle.command_base.specs.CommandWords.{rows_by}
use Rattle.command_solve.specs.Words.{solve_of_rows}
use Rattle.command_solve.proofs.SolveCommand.read.Goals as goal

pub returns-in-Some : goal.returns-in-Some
returns-in-Some c =
    let rows = rw c.in-Some.is at c.in_ok-matches.ensures in
    c.solve_of_matches.ensures
    ∙ ap (option_and_then solve_of_rows) (rows ∙ ap (λ (app : App). rows_by app (map string_bytes c.args.words.now)) c.in_ok-command.ensures)

pub returns-in-None : goal.returns-in-None
returns-in-None c =
    let rows = rw c.in-None.is at c.in_ok-matches.ensures in
    ap (option_and_then solve_of_rows) (rows ∙ ap (λ (app : App). rows_by app (map string_bytes c.args.words.now)) c.in_ok-command.ensures)
