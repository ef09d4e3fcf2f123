use Rattle.std.proofs.Common.{◌≡◌, ◌+◌, nat_eq, ◌∙◌, rules}
use Rattle.std.specs.Prelude.{is_some}
use Rattle.std.specs.Map.{lookup}
use Rattle.command_trim.specs.Renames.{pairs}
use Rattle.command_trim.proofs.NewIds.{any_pair}
use Rattle.command_trim.proofs.renames.Renames.was_made.Goals as goal

pub returns : goal.returns
returns c =
    let is : c.is_some.result ≡ is_some (lookup (nat_eq c.args.id) (pairs (c.args.self.now.rows + 1) c.args.self.now.table)) = search rules in
    is ∙ any_pair c.args.id (pairs (c.args.self.now.rows + 1) c.args.self.now.table)
