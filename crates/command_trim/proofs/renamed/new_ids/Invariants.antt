use Rattle.std.proofs.Common.{◌≡◌, take}
use Rattle.std.specs.List.{flat_map}
use Rattle.command_trim.specs.Renames.{renaming}
use Rattle.command_trim.proofs.NewLines.{ids_of}
use Rattle.command_trim.proofs.renamed.new_ids.Given as goal

abbrev pub invariant-loop-id : goal.invariant-loop-id
invariant-loop-id l = l.new ≡ flat_map (ids_of (renaming l.renames)) (take l.id-index l.ids)
