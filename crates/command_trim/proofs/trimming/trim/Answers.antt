use Rattle.std.proofs.Common.{ap, ◌∙◌, length, rules, ◌≡◌, ◌+◌}
use Rattle.command_trim.specs.Trimmed.{needed}
use Rattle.command_trim.proofs.Marking.{needed_length}
use Rattle.command_trim.proofs.trimming.trim.Goals as goal

pub kept_lines-requires-clause-all : goal.kept_lines-requires-clause-all
kept_lines-requires-clause-all c =
    let is : c.deref.result.now ≡ needed (length c.args.problem.now.rows + 1) c.args.lines.now = search rules in
    ap length is ∙ needed_length (length c.args.problem.now.rows + 1) c.args.lines.now
