use Rattle.std.proofs.Common.{◌≡◌, ◌++◌, take}
use Rattle.std.specs.List.{flat_map}
use Rattle.proof_lines.specs.LineText.{hint_word}
use Rattle.proof_lines.specs.Spaces.{after_space}
use Rattle.proof_lines.proofs.append.append_hints.Given as goal

abbrev pub invariant-loop-hint : goal.invariant-loop-hint
invariant-loop-hint l = l.text.items ≡ l.fn.text.items ++ flat_map (λ h. after_space (hint_word l.fn.spelling h)) (take l.hint-index l.hints)
