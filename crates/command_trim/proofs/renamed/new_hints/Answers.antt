use Rattle.std.proofs.Common.{ap, sym, ◌∙◌}
use Rattle.std.specs.List.{flat_map}
use Rattle.std.proofs.lemmas.List.{take_all}
use Rattle.command_trim.specs.Renames.{renaming}
use Rattle.command_trim.proofs.NewLines.{hints_of, new_hints_flat}
use Rattle.command_trim.proofs.renamed.new_hints.Goals as goal

pub returns : goal.returns
returns c =
    let r = renaming c.args.renames.now in
    c.loop-hint.invariant ∙ ap (flat_map (hints_of r)) (take_all c.loop-hint.hint-index c.args.hints.now c.loop-hint-test.false)
    ∙ sym (new_hints_flat r c.args.hints.now)
