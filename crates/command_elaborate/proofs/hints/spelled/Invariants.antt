use Rattle.std.proofs.Common.{◌≡◌, ◌++◌, map, drop}
use Rattle.command_elaborate.specs.Spelling.{respelled, spelled_hints, squeezed, told}
use Rattle.command_elaborate.proofs.hints.spelled.Given as goal

abbrev pub invariant-loop-hint : goal.invariant-loop-hint
invariant-loop-hint l = spelled_hints l.again l.negation l.hints ≡ l.spelled ++ squeezed l.last (told l.again (map (respelled l.negation) (drop l.hint-index l.hints)))
