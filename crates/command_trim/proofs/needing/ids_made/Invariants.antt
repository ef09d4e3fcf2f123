use Rattle.std.proofs.Common.{◌≡◌, take}
use Rattle.command_trim.specs.Marks.{made_by}
use Rattle.command_trim.proofs.needing.ids_made.Given as goal

abbrev pub invariant-loop-line : goal.invariant-loop-line
invariant-loop-line l = l.count ≡ made_by (take l.line-index l.lines)
