use Rattle.std.proofs.Common.{◌∙◌, ap}
use Rattle.std.specs.Option.{option_and_then}
use Rattle.std.proofs.lemmas.Iterator.Adapters.{option_map_id}
use Rattle.command_elaborate.specs.Words.{elaborate_of}
use Rattle.command_elaborate.proofs.ElaborateCommand.read.Goals as goal

pub returns-in-Some : goal.returns-in-Some
returns-in-Some c =
    let files = rw c.in-Some.is at c.in_ok-files.ensures.asked in
    option_map_id c.elaborate_of.result ∙ c.elaborate_of.ensures ∙ ap (option_and_then elaborate_of) files

pub returns-in-None : goal.returns-in-None
returns-in-None c =
    let files = rw c.in-None.is at c.in_ok-files.ensures.asked in
    ap (option_and_then elaborate_of) files
