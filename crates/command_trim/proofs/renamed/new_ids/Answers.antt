use Rattle.std.proofs.Common.{ap, sym, ◌∙◌}
use Rattle.std.specs.List.{flat_map}
use Rattle.std.proofs.lemmas.List.{take_all}
use Rattle.command_trim.specs.Renames.{renaming}
use Rattle.command_trim.proofs.NewLines.{ids_of, new_ids_flat}
use Rattle.command_trim.proofs.renamed.new_ids.Goals as goal

pub returns : goal.returns
returns c =
    let r = renaming c.args.renames.now in
    c.loop-id.invariant ∙ ap (flat_map (ids_of r)) (take_all c.loop-id.id-index c.args.ids.now c.loop-id-test.false)
    ∙ sym (new_ids_flat r c.args.ids.now)
