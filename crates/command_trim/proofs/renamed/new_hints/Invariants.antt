use Rattle.std.proofs.Common.{◌≡◌, take}
use Rattle.std.specs.List.{flat_map}
use Rattle.command_trim.specs.Renames.{renaming}
use Rattle.command_trim.proofs.NewLines.{hints_of}
use Rattle.command_trim.proofs.renamed.new_hints.Given as goal

abbrev pub invariant-loop-hint : goal.invariant-loop-hint
invariant-loop-hint l = l.new ≡ flat_map (hints_of (renaming l.renames)) (take l.hint-index l.hints)
