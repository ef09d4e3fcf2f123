use Rattle.std.proofs.Common.{◌≡◌, ◌∙◌, ap, arith}
use Rattle.std.proofs.lemmas.Grind.{common_steps}
use Rattle.std.specs.List.{concat}
use Rattle.front_text.specs.Lines.{list_lines}
use Rattle.front_text.proofs.Lines.{concat-list_lines}
use Rattle.front_text.proofs.print.list_lines.Goals as goal

pub returns-clause-text : goal.returns-clause-text
returns-clause-text c =
    let lines : c.loop-entry.lines ≡ list_lines c.args.complete c.args.entries.now = grind (arith, common_steps) in
    ap concat lines ∙ concat-list_lines c.args.complete c.args.entries.now
