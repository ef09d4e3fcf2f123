use Rattle.std.proofs.Common.{◌∙◌, ap}
use Rattle.std.specs.Option.{option_and_then}
use Rattle.command_trim.specs.Words.{trim_of}
use Rattle.command_trim.proofs.TrimCommand.read.Goals as goal

pub returns-in-Some : goal.returns-in-Some
returns-in-Some c =
    let files = rw c.in-Some.is at c.in_ok-files.ensures.asked in
    c.trim_of.ensures ∙ ap (option_and_then trim_of) files

pub returns-in-None : goal.returns-in-None
returns-in-None c =
    let files = rw c.in-None.is at c.in_ok-files.ensures.asked in
    ap (option_and_then trim_of) files
