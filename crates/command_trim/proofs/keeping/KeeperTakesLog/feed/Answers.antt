use Rattle.std.proofs.Common.{rules, ℕ, List, ◌++◌}
use Rattle.std.specs.Prelude.{OnOk}
use Rattle.command_trim.specs.Keeping.{StandsFor}
use Rattle.command_trim.proofs.Keeps.{passes_fed}
use Rattle.command_trim.proofs.keeping.KeeperTakesLog.feed.Goals as goal

pub returns-in-Ok-clause-passed : goal.returns-in-Ok-clause-passed
returns-in-Ok-clause-passed c =
    let fed : OnOk c.keep_lines.result ((bytes : List ℕ) → StandsFor c.args.self.now bytes → StandsFor c.keep_lines.new.self (bytes ++ c.args.piece.now)) = search rules in
    passes_fed c.keep_lines.result c.args.self.now c.keep_lines.new.self c.args.piece.now c.keep_lines.ensures.by fed
