use Rattle.std.proofs.Common.{◌≡◌, ◌++◌, take}
use Rattle.std.specs.List.{flat_map}
use Rattle.command_trim.specs.Trimmed.{hint_ids}
use Rattle.command_trim.proofs.ids.push_hints.Given as goal

abbrev pub invariant-loop-hint : goal.invariant-loop-hint
invariant-loop-hint l = l.ids ≡ l.fn.ids ++ flat_map hint_ids (take l.hint-index l.hints)
