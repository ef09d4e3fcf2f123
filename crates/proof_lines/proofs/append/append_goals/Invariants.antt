use Rattle.std.proofs.Common.{◌≡◌, ◌++◌, take}
use Rattle.std.specs.List.{flat_map}
use Rattle.proof_lines.specs.LineText.{goal_words}
use Rattle.proof_lines.specs.Spaces.{after_spaces}
use Rattle.proof_lines.proofs.append.append_goals.Given as goal

abbrev pub invariant-loop-proved : goal.invariant-loop-proved
invariant-loop-proved l = l.text.items ≡ l.fn.text.items ++ flat_map (λ q. after_spaces (goal_words l.fn.spelling q)) (take l.proved-index l.proofs)
