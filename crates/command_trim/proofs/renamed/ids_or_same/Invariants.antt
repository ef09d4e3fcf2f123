use Rattle.std.proofs.Common.{◌≡◌, map, take}
use Rattle.command_trim.specs.Renames.{renaming}
use Rattle.command_trim.specs.Trimmed.{id_or_same}
use Rattle.command_trim.proofs.renamed.ids_or_same.Given as goal

abbrev pub invariant-loop-id : goal.invariant-loop-id
invariant-loop-id l = l.new ≡ map (id_or_same (renaming l.renames)) (take l.id-index l.ids)
