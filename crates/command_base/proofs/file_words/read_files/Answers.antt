use Rattle.std.proofs.Common.{◌∙◌, List, ap}
use Rattle.std.specs.Prelude.{map, string_bytes}
use Rattle.std.specs.Option.{option_and_then}
use Rattle.clap.specs.Words.{App, Row}
use Rattle.command_base.specs.CommandWords.{rows_by}
use Rattle.command_base.specs.FileWords.{files_named, values_of}
use Rattle.command_base.proofs.file_words.read_files.Goals as goal

pub returns-in_ok-values-in-Some-clause-asked : goal.returns-in_ok-values-in-Some-clause-asked
returns-in_ok-values-in-Some-clause-asked c =
    let rows = rw c.in-Some.is at c.in_ok-matches.ensures in
    c.files_named.ensures.asked ∙ ap files_named c.in_ok-values-in-Some.ensures
    ∙ ap (option_and_then (λ (rows : List Row). files_named (values_of (map (λ s. s.now) c.args.places.now) rows)))
    (rows ∙ ap (λ (app : App). rows_by app (map string_bytes c.args.words.now)) c.in_ok-command.ensures)

pub returns-in-None-clause-asked : goal.returns-in-None-clause-asked
returns-in-None-clause-asked c =
    let rows = rw c.in-None.is at c.in_ok-matches.ensures in
    ap (option_and_then (λ (rows : List Row). files_named (values_of (map (λ s. s.now) c.args.places.now) rows)))
    (rows ∙ ap (λ (app : App). rows_by app (map string_bytes c.args.words.now)) c.in_ok-command.ensures)
