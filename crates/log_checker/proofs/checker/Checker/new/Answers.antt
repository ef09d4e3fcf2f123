use Rattle.std.proofs.Common.{[], rules}
use Rattle.log_checker.proofs.Texts.{nothing_held}
use Rattle.log_checker.proofs.checker.Checker.new.Goals as goal

pub returns-clause-stands : goal.returns-clause-stands
returns-clause-stands c = ([], record { read = search rules; all = nothing_held; replay = search rules; covered = search rules })
